-- Every step preserves the invariant.
use Rattle.std.proofs.Common.{◌≡◌, ◌≢◌, ℕ, ◌+◌, ◌-◌, ◌*◌, ◌/◌, ◌<◌, ◌≤◌, inl, inr, true, false, Option, Some, None, List, [], ◌∷◌, get_or, set, refl, sym, ap, ◌∙◌, subst, arith, get_or-set_same, get_or-set_other}
use Rattle.std.proofs.lemmas.List.{length-set}
use Rattle.std.proofs.lemmas.Bool.{cases_eq}
use Rattle.cut_preflow.specs.declared.event.Step.{Step}
use Rattle.cut_preflow.specs.declared.event.Step.TheVariants.{Push, Relabel}
use Rattle.cut_preflow.specs.declared.event.Event.{Event}
use Rattle.cut_preflow.specs.Preflow.{FlowNetwork, State, count, import_at, flow_at, label_at, inflow, outflow, is_forward, tail, head, residual, can_push, push_amount, pushed, relabel_target, relabelled, after, run}
use Rattle.cut_preflow.specs.Kept.{IsFlowNetwork, IsValidPreflow}
use Rattle.cut_preflow.proofs.Choices.{pick_true, pick_false, true_or_false}
use Rattle.cut_preflow.proofs.Pushes.{along_no_debt, back_no_debt, along_fits, back_fits, along_valid, back_valid, relabel_valid, active_low}
use Rattle.cut_preflow.proofs.Arcs.{Pushable, pushable_from, ahead, back, ahead_of, back_of, least_some, Raisable, raisable_from}

-- the amount that a push moves is above 0, within the excess of the arc's tail and within its residual
pub record Moves (net : FlowNetwork) (s : State) (arc : ℕ) : Type 0 where
  pub some : 0 < push_amount net s arc
  pub paid : outflow net s (tail net arc) + push_amount net s arc ≤ inflow net s (tail net arc)
  pub fits : push_amount net s arc ≤ residual net s arc

pub moves : (net : FlowNetwork) (s : State) (arc : ℕ) → Pushable net s arc → Moves net s arc
moves net s arc can =
    let more : outflow net s (tail net arc) < inflow net s (tail net arc) = can.active.more in
    let room : 0 < residual net s arc = can.room in
    record { some = omega arith; paid = omega arith; fits = omega arith }

-- a push along import i of an amount that is at most the importer's excess and the import's residual capacity
pub along_keeps : (net : FlowNetwork) (s : State) (i amount : ℕ) → IsFlowNetwork net → IsValidPreflow net s → i < count net → flow_at s i + amount ≤ (import_at net i).amount → 0 < amount → outflow net s (import_at net i).from + amount ≤ inflow net s (import_at net i).from → label_at s (import_at net i).from ≡ label_at s (import_at net i).to + 1 → IsValidPreflow net (record { flow = set s.flow i (flow_at s i + amount); label = s.label })
along_keeps net s i amount is kept il room some paid downhill =
    record {
      flows = length-set s.flow i (flow_at s i + amount) ∙ kept.flows;
      labels = kept.labels;
      fits = along_fits n m from to capacity low high i amount il here others net.source kept.fits room;
      no_debt = along_no_debt n m from to capacity low high i amount il here others net.source kept.no_debt paid;
      valid = along_valid n m from to capacity low high i amount il here others net.source (label_at s) kept.valid (omega arith) downhill;
      source_label = kept.source_label;
      sink_label = kept.sink_label;
      low = kept.low;
    }
  where
    n : ℕ
    n = net.nodes

    m : ℕ
    m = count net

    from : ℕ → ℕ
    from j = (import_at net j).from

    to : ℕ → ℕ
    to j = (import_at net j).to

    capacity : ℕ → ℕ
    capacity j = (import_at net j).amount

    low : ℕ → ℕ
    low j = flow_at s j

    high : ℕ → ℕ
    high j = get_or (set s.flow i (flow_at s i + amount)) j 0

    here : high i ≡ low i + amount
    here = get_or-set_same s.flow i (flow_at s i + amount) 0 (omega (arith, kept.flows))

    others : (j : ℕ) → j < m → j ≢ i → high j ≡ low j
    others j l ne = get_or-set_other s.flow i j (flow_at s i + amount) 0 ne

-- a push back along import i of an amount that is at most the imported node's excess and the import's flow
pub back_keeps : (net : FlowNetwork) (s : State) (i amount : ℕ) → IsFlowNetwork net → IsValidPreflow net s → i < count net → amount ≤ flow_at s i → outflow net s (import_at net i).to + amount ≤ inflow net s (import_at net i).to → label_at s (import_at net i).to ≡ label_at s (import_at net i).from + 1 → IsValidPreflow net (record { flow = set s.flow i (flow_at s i - amount); label = s.label })
back_keeps net s i amount is kept il room paid downhill =
    record {
      flows = length-set s.flow i (flow_at s i - amount) ∙ kept.flows;
      labels = kept.labels;
      fits = back_fits n m from to capacity low high i amount il here others net.source kept.fits;
      no_debt = back_no_debt n m from to capacity low high i amount il here others net.source kept.no_debt paid;
      valid = back_valid n m from to capacity low high i amount il here others net.source (label_at s) kept.valid downhill;
      source_label = kept.source_label;
      sink_label = kept.sink_label;
      low = kept.low;
    }
  where
    n : ℕ
    n = net.nodes

    m : ℕ
    m = count net

    from : ℕ → ℕ
    from j = (import_at net j).from

    to : ℕ → ℕ
    to j = (import_at net j).to

    capacity : ℕ → ℕ
    capacity j = (import_at net j).amount

    high : ℕ → ℕ
    high j = flow_at s j

    low : ℕ → ℕ
    low j = get_or (set s.flow i (flow_at s i - amount)) j 0

    here : high i ≡ low i + amount
    here =
        let at : low i ≡ flow_at s i - amount = get_or-set_same s.flow i (flow_at s i - amount) 0 (omega (arith, kept.flows)) in
        omega arith

    others : (j : ℕ) → j < m → j ≢ i → high j ≡ low j
    others j l ne = sym (get_or-set_other s.flow i j (flow_at s i - amount) 0 ne)

pub push_keeps : (net : FlowNetwork) (s : State) (arc : ℕ) → IsFlowNetwork net → IsValidPreflow net s → Pushable net s arc → IsValidPreflow net (record { flow = pushed net s arc; label = s.label })
push_keeps net s arc is kept can = elim (true_or_false (is_forward arc)) [
  | inl e ↦ forward e
  | inr e ↦ backward e
]
  where
    go : Moves net s arc
    go = moves net s arc can

    forward : is_forward arc ≡ true → IsValidPreflow net (record { flow = pushed net s arc; label = s.label })
    forward e =
        let way = ahead net s arc e in
        let within : flow_at s (arc / 2) ≤ (import_at net (arc / 2)).amount = kept.fits (arc / 2) can.below in
        let room : push_amount net s arc ≤ residual net s arc = go.fits in
        let is_res : residual net s arc ≡ (import_at net (arc / 2)).amount - flow_at s (arc / 2) = way.residual_is in
        let paid = subst (λ x. outflow net s x + push_amount net s arc ≤ inflow net s x) way.tail_is go.paid in
        let down = ap (label_at s) (sym way.tail_is) ∙ can.downhill ∙ ap (λ x. label_at s x + 1) way.head_is in
        let kept' = along_keeps net s (arc / 2) (push_amount net s arc) is kept can.below (omega (arith, is_res)) go.some paid down in
        let flows : set s.flow (arc / 2) (flow_at s (arc / 2) + push_amount net s arc) ≡ pushed net s arc =
        ap (λ y. set s.flow (arc / 2) y) (sym (pick_true (is_forward arc) (flow_at s (arc / 2) + push_amount net s arc) (flow_at s (arc / 2) - push_amount net s arc) e)) in
        subst (λ ys. IsValidPreflow net (record { flow = ys; label = s.label })) flows kept'

    backward : is_forward arc ≡ false → IsValidPreflow net (record { flow = pushed net s arc; label = s.label })
    backward e =
        let way = back net s arc e in
        let room : push_amount net s arc ≤ residual net s arc = go.fits in
        let is_res : residual net s arc ≡ flow_at s (arc / 2) = way.residual_is in
        let paid = subst (λ x. outflow net s x + push_amount net s arc ≤ inflow net s x) way.tail_is go.paid in
        let down = ap (label_at s) (sym way.tail_is) ∙ can.downhill ∙ ap (λ x. label_at s x + 1) way.head_is in
        let kept' = back_keeps net s (arc / 2) (push_amount net s arc) is kept can.below (omega (arith, is_res)) paid down in
        let flows : set s.flow (arc / 2) (flow_at s (arc / 2) - push_amount net s arc) ≡ pushed net s arc =
        ap (λ y. set s.flow (arc / 2) y) (sym (pick_false (is_forward arc) (flow_at s (arc / 2) + push_amount net s arc) (flow_at s (arc / 2) - push_amount net s arc) e)) in
        subst (λ ys. IsValidPreflow net (record { flow = ys; label = s.label })) flows kept'

pub relabel_keeps : (net : FlowNetwork) (s : State) (v label : ℕ) → IsFlowNetwork net → IsValidPreflow net s → Raisable net s v label → IsValidPreflow net (record { flow = s.flow; label = set s.label v label })
relabel_keeps net s v label is kept can =
    record {
      flows = kept.flows;
      labels = length-set s.label v label ∙ kept.labels;
      fits = kept.fits;
      no_debt = kept.no_debt;
      valid = valid;
      source_label = other net.source (λ e. can.active.not_source (sym e)) ∙ kept.source_label;
      sink_label = other net.sink (λ e. can.active.not_sink (sym e)) ∙ kept.sink_label;
      low = low;
    }
  where
    up : ℕ → ℕ
    up w = get_or (set s.label v label) w 0

    here : up v ≡ label
    here =
        let small : v < net.nodes = can.active.low in
        get_or-set_same s.label v label 0 (omega (arith, kept.labels))

    other : (w : ℕ) → w ≢ v → up w ≡ label_at s w
    other w ne = get_or-set_other s.label v w label 0 ne

    lowest : (arc : ℕ) → arc < 2 * count net → tail net arc ≡ v → 0 < residual net s arc → can.least ≤ label_at s (head net arc)
    lowest arc l t r =
        let found = least_some net s v (2 * count net) arc l t r in
        let same : Some can.least ≡ Some found.0 = sym can.is_least ∙ found.1 in
        let eq : can.least ≡ found.0 = cc in
        omega (arith, found.2)

    valid : (i : ℕ) → i < count net → (flow_at s i < (import_at net i).amount → up (import_at net i).from ≤ up (import_at net i).to + 1) × (0 < flow_at s i → up (import_at net i).to ≤ up (import_at net i).from + 1)
    valid =
        relabel_valid (count net) (λ i. (import_at net i).from) (λ i. (import_at net i).to) (λ i. (import_at net i).amount) (flow_at s) (label_at s) up v can.least kept.valid can.none_lower (here ∙ can.label_is) other
        (λ i l.
        let f = ahead_of net s i in
        let b = back_of net s i in (
          (λ e has. subst (λ x. can.least ≤ label_at s x) f.head_is (lowest (2 * i) (omega arith) (f.tail_is ∙ e) (omega (arith, f.residual_is)))),
          (λ e has. subst (λ x. can.least ≤ label_at s x) b.head_is (lowest (2 * i + 1) (omega arith) (b.tail_is ∙ e) (omega (arith, b.residual_is)))),
        ))

    low : (w : ℕ) → w < net.nodes → up w < 2 * net.nodes
    low w l = elim (cases_eq w v) [
      | inl e ↦ subst (λ x. up x < 2 * net.nodes) (sym e)
          (active_low net.nodes (count net) (λ i. (import_at net i).from) (λ i. (import_at net i).to) (λ i. (import_at net i).amount) (flow_at s) up is.from_low is.to_low valid net.source is.source_low kept.no_debt (other net.source (λ e. can.active.not_source (sym e)) ∙ kept.source_label) v can.active.low can.active.more)
      | inr ne ↦ omega (arith, other w ne, kept.low w l)
    ]

-- each step preserves the invariant
pub after_keeps : (net : FlowNetwork) (s : State) (step : Step) → IsFlowNetwork net → IsValidPreflow net s → IsValidPreflow net (after net s step)
after_keeps net s (Push arc) is kept = elim (true_or_false (can_push net s arc)) [
  | inl e ↦ rw (e) (push_keeps net s arc is kept (pushable_from net s arc e))
  | inr e ↦ rw (e) kept
]
after_keeps net s (Relabel v) is kept = go (relabel_target net s v) refl
  where
    go : (o : Option ℕ) → relabel_target net s v ≡ o → IsValidPreflow net (relabelled s v o)
    go None e = kept
    go (Some label) e = relabel_keeps net s v label is kept (raisable_from net s v label e)

pub run_keeps : (net : FlowNetwork) (s : State) (events : List Event) → IsFlowNetwork net → IsValidPreflow net s → IsValidPreflow net (run net s events)
run_keeps net s [] is kept = kept
run_keeps net s (e ∷ es) is kept = run_keeps net (after net s e.step) es is (after_keeps net s e.step is kept)
