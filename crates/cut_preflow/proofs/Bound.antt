-- How many events can change the state.
use Rattle.std.proofs.Common.{◌≡◌, ◌≢◌, ℕ, ◌+◌, ◌-◌, ◌*◌, ◌/◌, ◌<◌, ◌≤◌, min, inl, inr, true, false, not, ◌&&◌, ◌==◌, nat_lt, if◌then◌else◌, Option, Some, None, is_some, List, [], ◌∷◌, length, set, refl, sym, ap, ◌∙◌, subst, arith, get_or-set_same, get_or-set_other}
use Rattle.std.proofs.lemmas.Bool.{cases_lt, cases_eq}
use Rattle.std.proofs.lemmas.Nat.{mul-le}
use Rattle.cut_preflow.specs.declared.event.Step.{Step}
use Rattle.cut_preflow.specs.declared.event.Step.TheVariants.{Push, Relabel}
use Rattle.cut_preflow.specs.declared.event.Event.{Event}
use Rattle.cut_preflow.specs.Total.{total}
use Rattle.cut_preflow.specs.Preflow.{FlowNetwork, State, count, import_at, flow_at, label_at, inflow, outflow, excess, is_forward, residual, is_active, push_amount, pushed, relabel_target, relabelled, after, applies, run, opening, is_legal}
use Rattle.cut_preflow.specs.Kept.{IsFlowNetwork, IsValidPreflow}
use Rattle.cut_preflow.specs.Bound.{changes, max_steps}
use Rattle.cut_preflow.proofs.Choices.{choice_le, choice_same, choice_other, pick_true, pick_false, true_or_false}
use Rattle.cut_preflow.proofs.Totals.{total-le, total-zero, total-at_most, total-change}
use Rattle.cut_preflow.proofs.Pushes.{by_key_raised}
use Rattle.cut_preflow.proofs.Arcs.{Active, active_from, active_true, left_true, right_true, Pushable, pushable_from, ahead, back, Raisable, raisable_from}
use Rattle.cut_preflow.proofs.Kept.{after_keeps, run_keeps}
use Rattle.cut_preflow.proofs.Opening.{opening_keeps, opening_label}
use Rattle.cut_preflow.proofs.Potential.{total-change_two, level, level_le, level_full, level_empty, level_ahead, level_back, level_at_most}

-- the labels of the active nodes
abbrev pub active_labels : FlowNetwork → State → ℕ
active_labels net s = total net.nodes (λ v. if is_active net s v then label_at s v else 0)

abbrev pub levels : FlowNetwork → State → ℕ
levels net s = total (count net) (λ i. level (import_at net i).amount (flow_at s i) (label_at s (import_at net i).from) (label_at s (import_at net i).to))

abbrev pub labels : FlowNetwork → State → ℕ
labels net s = total net.nodes (λ v. label_at s v)

mul_le : (k a b : ℕ) → a ≤ b → k * a ≤ k * b
mul_le k a b le = grind arith

-- a node whose excess stays is active after as before
active_same : (net : FlowNetwork) (s t : State) (v : ℕ) → excess net t v ≡ excess net s v → is_active net t v ≡ is_active net s v
active_same net s t v e = ap (λ x. nat_lt v net.nodes && (not (v == net.source) && (not (v == net.sink) && nat_lt 0 x))) e

not_active : (net : FlowNetwork) (s : State) (v : ℕ) → inflow net s v ≤ outflow net s v → is_active net s v ≡ false
not_active net s v le = elim (true_or_false (is_active net s v)) [
  | inl e ↦ (let a = active_from net s v e in absurd (omega (arith, a.more)))
  | inr e ↦ e
]

-- what a push from u to w is to the labels of the active nodes: u's goes where u spends its excess, and w's may come
active_after : (net : FlowNetwork) (s : State) (flow : List ℕ) (u w : ℕ) → w < net.nodes → Active net s u → u ≢ w → ((v : ℕ) → v ≢ u → v ≢ w → excess net (record { flow = flow; label = s.label }) v ≡ excess net s v) → active_labels net (record { flow = flow; label = s.label }) + label_at s u ≤ active_labels net s + ((if is_active net (record { flow = flow; label = s.label }) u then label_at s u else 0) + label_at s w)
active_after net s flow u w lw a ne same =
    let changed = total-change_two net.nodes (λ v. if is_active net t v then label_at s v else 0) (λ v. if is_active net s v then label_at s v else 0) u w a.low lw ne
    (λ j _ nu nw. ap (λ b. if b then label_at s j else 0) (active_same net s t j (same j nu nw))) in
    let before = pick_true (is_active net s u) (label_at s u) 0 (active_true net s u a) in
    omega (arith, changed, before, choice_le (is_active net t w) (label_at s w))
  where
    t : State
    t = record { flow = flow; label = s.label }

module _ (net : FlowNetwork) (most : ℕ) where
  -- the change of the three sums by a step that applies
  abbrev pub Falls : State → State → Type 0
  Falls s t = active_labels net t + most * levels net s + 2 * labels net s + 1 ≤ active_labels net s + most * levels net t + 2 * labels net t

  -- a push that fills or empties its import
  fills : (a a' l l' w d : ℕ) → a' ≤ a + w → l' ≡ l + 1 → w + 1 ≤ most → a' + most * l + 2 * d + 1 ≤ a + most * l' + 2 * d
  fills a a' l l' w d h e le = omega (arith, h, le, ap (λ x. most * x) e)

  -- a push that spends the excess of its tail
  spends : (a a' l l' u w d : ℕ) → a' + u ≤ a + w → u ≡ w + 1 → l' ≡ l → a' + most * l + 2 * d + 1 ≤ a + most * l' + 2 * d
  spends a a' l l' u w d h e same = omega (arith, h, e, ap (λ x. most * x) same)

  along_falls : (s : State) (i amount : ℕ) → IsFlowNetwork net → IsValidPreflow net s → ((v : ℕ) → v < net.nodes → label_at s v ≤ most) → i < count net → Active net s (import_at net i).from → amount ≡ min (excess net s (import_at net i).from) ((import_at net i).amount - flow_at s i) → flow_at s i < (import_at net i).amount → label_at s (import_at net i).from ≡ label_at s (import_at net i).to + 1 → Falls s (record { flow = set s.flow i (flow_at s i + amount); label = s.label })
  along_falls s i amount is kept bound il a is_amount room down =
      elim (cases_lt amount ((import_at net i).amount - flow_at s i)) [
        | inl lt ↦
            (let gone : is_active net t u ≡ false = not_active net t u (omega (arith, out_u, in_u, a.more)) in
            let off = pick_false (is_active net t u) (label_at s u) 0 gone in
            let level' : level (import_at net i).amount (flow_at t i) (label_at s u) (label_at s w) ≡ label_at s w = level_ahead (import_at net i).amount (flow_at t i) (label_at s u) (label_at s w) (omega (arith, here)) down in
            spends (active_labels net s) (active_labels net t) (levels net s) (levels net t) (label_at s u) (label_at s w) (labels net s) (omega (arith, active', off)) down (omega (arith, changed, level', level_before)))
        | inr le ↦
            (let full : flow_at t i ≡ (import_at net i).amount = omega (arith, here) in
            let level' : level (import_at net i).amount (flow_at t i) (label_at s u) (label_at s w) ≡ label_at s u =
            subst (λ x. level (import_at net i).amount x (label_at s u) (label_at s w) ≡ label_at s u) (sym full) (level_full (import_at net i).amount (label_at s u) (label_at s w)) in
            fills (active_labels net s) (active_labels net t) (levels net s) (levels net t) (label_at s w) (labels net s) (omega (arith, active', choice_le (is_active net t u) (label_at s u))) (omega (arith, changed, level', level_before, down)) (omega (arith, bound u a.low, down)))
      ]
    where
      u : ℕ
      u = (import_at net i).from

      w : ℕ
      w = (import_at net i).to

      t : State
      t = record { flow = set s.flow i (flow_at s i + amount); label = s.label }

      here : flow_at t i ≡ flow_at s i + amount
      here = get_or-set_same s.flow i (flow_at s i + amount) 0 (omega (arith, kept.flows))

      others : (j : ℕ) → j < count net → j ≢ i → flow_at t j ≡ flow_at s j
      others j l ne = get_or-set_other s.flow i j (flow_at s i + amount) 0 ne

      apart : u ≢ w
      apart e = let same = ap (label_at s) e in omega (arith, same, down)

      out' : (v : ℕ) → outflow net t v ≡ outflow net s v + (if u == v then amount else 0)
      out' v = by_key_raised (count net) (λ j. (import_at net j).from) (flow_at s) (flow_at t) i amount il here others v

      in' : (v : ℕ) → inflow net t v ≡ inflow net s v + (if w == v then amount else 0)
      in' v = by_key_raised (count net) (λ j. (import_at net j).to) (flow_at s) (flow_at t) i amount il here others v

      out_u : outflow net t u ≡ outflow net s u + amount
      out_u = omega (arith, out' u, choice_same u u amount 0 refl)

      in_u : inflow net t u ≡ inflow net s u
      in_u = omega (arith, in' u, choice_other w u amount 0 (λ e. apart (sym e)))

      elsewhere : (v : ℕ) → v ≢ u → v ≢ w → excess net t v ≡ excess net s v
      elsewhere v nu nw = omega (arith, out' v, in' v, choice_other u v amount 0 (λ e. nu (sym e)), choice_other w v amount 0 (λ e. nw (sym e)))

      active' : active_labels net t + label_at s u ≤ active_labels net s + ((if is_active net t u then label_at s u else 0) + label_at s w)
      active' = active_after net s (set s.flow i (flow_at s i + amount)) u w (is.to_low i il) a apart elsewhere

      changed : levels net t + level (import_at net i).amount (flow_at s i) (label_at s u) (label_at s w) ≡ levels net s + level (import_at net i).amount (flow_at t i) (label_at s u) (label_at s w)
      changed =
          total-change (count net) (λ j. level (import_at net j).amount (flow_at t j) (label_at s (import_at net j).from) (label_at s (import_at net j).to)) (λ j. level (import_at net j).amount (flow_at s j) (label_at s (import_at net j).from) (label_at s (import_at net j).to)) i il
          (λ j l ne. ap (λ x. level (import_at net j).amount x (label_at s (import_at net j).from) (label_at s (import_at net j).to)) (others j l ne))

      level_before : level (import_at net i).amount (flow_at s i) (label_at s u) (label_at s w) ≡ label_at s w
      level_before = level_ahead (import_at net i).amount (flow_at s i) (label_at s u) (label_at s w) room down

  back_falls : (s : State) (i amount : ℕ) → IsFlowNetwork net → IsValidPreflow net s → ((v : ℕ) → v < net.nodes → label_at s v ≤ most) → i < count net → Active net s (import_at net i).to → amount ≡ min (excess net s (import_at net i).to) (flow_at s i) → 0 < flow_at s i → label_at s (import_at net i).to ≡ label_at s (import_at net i).from + 1 → Falls s (record { flow = set s.flow i (flow_at s i - amount); label = s.label })
  back_falls s i amount is kept bound il a is_amount room down =
      elim (cases_lt amount (flow_at s i)) [
        | inl lt ↦
            (let gone : is_active net t u ≡ false = not_active net t u (omega (arith, out_u, in_u, a.more)) in
            let off = pick_false (is_active net t u) (label_at s u) 0 gone in
            let level' : level (import_at net i).amount (flow_at t i) (label_at s w) (label_at s u) ≡ label_at s w = level_back (import_at net i).amount (flow_at t i) (label_at s w) (label_at s u) (omega (arith, at)) down in
            spends (active_labels net s) (active_labels net t) (levels net s) (levels net t) (label_at s u) (label_at s w) (labels net s) (omega (arith, active', off)) down (omega (arith, changed, level', level_before)))
        | inr le ↦
            (let empty : flow_at t i ≡ 0 = omega (arith, at) in
            let level' : level (import_at net i).amount (flow_at t i) (label_at s w) (label_at s u) ≡ label_at s u =
            subst (λ x. level (import_at net i).amount x (label_at s w) (label_at s u) ≡ label_at s u) (sym empty) (level_empty (import_at net i).amount (label_at s w) (label_at s u) (omega (arith, kept.fits i il))) in
            fills (active_labels net s) (active_labels net t) (levels net s) (levels net t) (label_at s w) (labels net s) (omega (arith, active', choice_le (is_active net t u) (label_at s u))) (omega (arith, changed, level', level_before, down)) (omega (arith, bound u a.low, down)))
      ]
    where
      u : ℕ
      u = (import_at net i).to

      w : ℕ
      w = (import_at net i).from

      t : State
      t = record { flow = set s.flow i (flow_at s i - amount); label = s.label }

      at : flow_at t i ≡ flow_at s i - amount
      at = get_or-set_same s.flow i (flow_at s i - amount) 0 (omega (arith, kept.flows))

      here : flow_at s i ≡ flow_at t i + amount
      here = omega (arith, at)

      others : (j : ℕ) → j < count net → j ≢ i → flow_at s j ≡ flow_at t j
      others j l ne = sym (get_or-set_other s.flow i j (flow_at s i - amount) 0 ne)

      apart : u ≢ w
      apart e = let same = ap (label_at s) e in omega (arith, same, down)

      out' : (v : ℕ) → outflow net s v ≡ outflow net t v + (if w == v then amount else 0)
      out' v = by_key_raised (count net) (λ j. (import_at net j).from) (flow_at t) (flow_at s) i amount il here others v

      in' : (v : ℕ) → inflow net s v ≡ inflow net t v + (if u == v then amount else 0)
      in' v = by_key_raised (count net) (λ j. (import_at net j).to) (flow_at t) (flow_at s) i amount il here others v

      out_u : outflow net s u ≡ outflow net t u
      out_u = omega (arith, out' u, choice_other w u amount 0 (λ e. apart (sym e)))

      in_u : inflow net s u ≡ inflow net t u + amount
      in_u = omega (arith, in' u, choice_same u u amount 0 refl)

      elsewhere : (v : ℕ) → v ≢ u → v ≢ w → excess net t v ≡ excess net s v
      elsewhere v nu nw = omega (arith, out' v, in' v, choice_other u v amount 0 (λ e. nu (sym e)), choice_other w v amount 0 (λ e. nw (sym e)))

      active' : active_labels net t + label_at s u ≤ active_labels net s + ((if is_active net t u then label_at s u else 0) + label_at s w)
      active' = active_after net s (set s.flow i (flow_at s i - amount)) u w (is.from_low i il) a apart elsewhere

      changed : levels net t + level (import_at net i).amount (flow_at s i) (label_at s w) (label_at s u) ≡ levels net s + level (import_at net i).amount (flow_at t i) (label_at s w) (label_at s u)
      changed =
          total-change (count net) (λ j. level (import_at net j).amount (flow_at t j) (label_at s (import_at net j).from) (label_at s (import_at net j).to)) (λ j. level (import_at net j).amount (flow_at s j) (label_at s (import_at net j).from) (label_at s (import_at net j).to)) i il
          (λ j l ne. ap (λ x. level (import_at net j).amount x (label_at s (import_at net j).from) (label_at s (import_at net j).to)) (sym (others j l ne)))

      level_before : level (import_at net i).amount (flow_at s i) (label_at s w) (label_at s u) ≡ label_at s w
      level_before = level_back (import_at net i).amount (flow_at s i) (label_at s w) (label_at s u) room down

  push_falls : (s : State) (arc : ℕ) → IsFlowNetwork net → IsValidPreflow net s → ((v : ℕ) → v < net.nodes → label_at s v ≤ most) → Pushable net s arc → Falls s (record { flow = pushed net s arc; label = s.label })
  push_falls s arc is kept bound can = elim (true_or_false (is_forward arc)) [
    | inl e ↦
        (let way = ahead net s arc e in
        let is_amount : push_amount net s arc ≡ min (excess net s (import_at net (arc / 2)).from) ((import_at net (arc / 2)).amount - flow_at s (arc / 2)) =
        ap (λ x. min (excess net s x) (residual net s arc)) way.tail_is ∙ ap (λ x. min (excess net s (import_at net (arc / 2)).from) x) way.residual_is in
        let flows : set s.flow (arc / 2) (flow_at s (arc / 2) + push_amount net s arc) ≡ pushed net s arc =
        ap (λ y. set s.flow (arc / 2) y) (sym (pick_true (is_forward arc) (flow_at s (arc / 2) + push_amount net s arc) (flow_at s (arc / 2) - push_amount net s arc) e)) in
        let down = ap (label_at s) (sym way.tail_is) ∙ can.downhill ∙ ap (λ x. label_at s x + 1) way.head_is in
        let falls = along_falls s (arc / 2) (push_amount net s arc) is kept bound can.below (subst (λ x. Active net s x) way.tail_is can.active) is_amount (omega (arith, can.room, way.residual_is)) down in
        subst (λ ys. Falls s (record { flow = ys; label = s.label })) flows falls)
    | inr e ↦
        (let way = back net s arc e in
        let is_amount : push_amount net s arc ≡ min (excess net s (import_at net (arc / 2)).to) (flow_at s (arc / 2)) =
        ap (λ x. min (excess net s x) (residual net s arc)) way.tail_is ∙ ap (λ x. min (excess net s (import_at net (arc / 2)).to) x) way.residual_is in
        let flows : set s.flow (arc / 2) (flow_at s (arc / 2) - push_amount net s arc) ≡ pushed net s arc =
        ap (λ y. set s.flow (arc / 2) y) (sym (pick_false (is_forward arc) (flow_at s (arc / 2) + push_amount net s arc) (flow_at s (arc / 2) - push_amount net s arc) e)) in
        let down = ap (label_at s) (sym way.tail_is) ∙ can.downhill ∙ ap (λ x. label_at s x + 1) way.head_is in
        let falls = back_falls s (arc / 2) (push_amount net s arc) is kept bound can.below (subst (λ x. Active net s x) way.tail_is can.active) is_amount (omega (arith, can.room, way.residual_is)) down in
        subst (λ ys. Falls s (record { flow = ys; label = s.label })) flows falls)
  ]

  -- a relabel that raises one label
  lifts : (a a' l l' d d' old new : ℕ) → a' + old ≡ a + new → d' + old ≡ d + new → old < new → most * l ≤ most * l' → a' + most * l + 2 * d + 1 ≤ a + most * l' + 2 * d'
  lifts a a' l l' d d' old new p q r le = omega arith

  relabel_falls : (s : State) (v label : ℕ) → IsFlowNetwork net → IsValidPreflow net s → Raisable net s v label → Falls s (record { flow = s.flow; label = set s.label v label })
  relabel_falls s v label is kept can =
      lifts (active_labels net s) (active_labels net t) (levels net s) (levels net t) (labels net s) (labels net t) (label_at s v) label
      actives sums (omega (arith, can.none_lower, can.label_is)) (mul_le most (levels net s) (levels net t) risen)
    where
      t : State
      t = record { flow = s.flow; label = set s.label v label }

      here : label_at t v ≡ label
      here = get_or-set_same s.label v label 0 (omega (arith, kept.labels, can.active.low))

      other : (x : ℕ) → x ≢ v → label_at t x ≡ label_at s x
      other x ne = get_or-set_other s.label v x label 0 ne

      up : (x : ℕ) → label_at s x ≤ label_at t x
      up x = elim (cases_eq x v) [
        | inl e ↦ subst (λ y. label_at s y ≤ label_at t y) (sym e) (omega (arith, here, can.none_lower, can.label_is))
        | inr ne ↦ omega (arith, other x ne)
      ]

      sums : labels net t + label_at s v ≡ labels net s + label
      sums = omega (arith, here, total-change net.nodes (λ x. label_at t x) (λ x. label_at s x) v can.active.low (λ j _ ne. other j ne))

      actives : active_labels net t + label_at s v ≡ active_labels net s + label
      actives =
          let changed = total-change net.nodes (λ x. if is_active net s x then label_at t x else 0) (λ x. if is_active net s x then label_at s x else 0) v can.active.low
          (λ j _ ne. ap (λ y. if is_active net s j then y else 0) (other j ne)) in
          let on = active_true net s v can.active in
          let was = pick_true (is_active net s v) (label_at s v) 0 on in
          let is' = pick_true (is_active net s v) (label_at t v) 0 on in
          omega (arith, changed, was, is', here)

      risen : levels net s ≤ levels net t
      risen =
          total-le (count net) (λ j. level (import_at net j).amount (flow_at s j) (label_at s (import_at net j).from) (label_at s (import_at net j).to)) (λ j. level (import_at net j).amount (flow_at s j) (label_at t (import_at net j).from) (label_at t (import_at net j).to))
          (λ j _. level_le (import_at net j).amount (flow_at s j) (label_at s (import_at net j).from) (label_at s (import_at net j).to) (label_at t (import_at net j).from) (label_at t (import_at net j).to) (up (import_at net j).from) (up (import_at net j).to))

  -- each event that applies makes the potential fall
  pub step_falls : (s : State) (step : Step) → IsFlowNetwork net → IsValidPreflow net s → ((v : ℕ) → v < net.nodes → label_at s v ≤ most) → applies net s step ≡ true → Falls s (after net s step)
  step_falls s (Push arc) is kept bound e =
      let falls = push_falls s arc is kept bound (pushable_from net s arc e) in
      subst (λ b. Falls s (if b then record { flow = pushed net s arc; label = s.label } else s)) (sym e) falls
  step_falls s (Relabel v) is kept bound e = go (relabel_target net s v) refl e
    where
      go : (o : Option ℕ) → relabel_target net s v ≡ o → is_some o ≡ true → Falls s (relabelled s v o)
      go None q f = cc
      go (Some label) q f = relabel_falls s v label is kept (raisable_from net s v label q)

-- the bound on the changes, and the potential that pays for them: labels stay at most 2 * nodes - 1
abbrev pub top : FlowNetwork → ℕ
top net = 2 * net.nodes - 1

kept_top : (net : FlowNetwork) (s : State) → IsValidPreflow net s → (v : ℕ) → v < net.nodes → label_at s v ≤ top net
kept_top net s kept v l = omega (arith, kept.low v l)

-- the events that change the state are paid for by what the levels and the labels gain
pub changes_paid : (net : FlowNetwork) (s : State) (events : List Event) → IsFlowNetwork net → IsValidPreflow net s → changes net s events + active_labels net (run net s events) + top net * levels net s + 2 * labels net s ≤ active_labels net s + top net * levels net (run net s events) + 2 * labels net (run net s events)
changes_paid net s [] is kept = omega arith
changes_paid net s (e ∷ es) is kept =
    let ih = changes_paid net (after net s e.step) es is (after_keeps net s e.step is kept) in
    elim (true_or_false (applies net s e.step)) [
      | inl on ↦
          (let falls = step_falls net (top net) s e.step is kept (kept_top net s kept) on in
          let one = pick_true (applies net s e.step) 1 0 on in
          omega (arith, ih, falls, one))
      | inr off ↦
          (let one = pick_false (applies net s e.step) 1 0 off in
          let same = stale net s e.step off in
          let a = ap (λ x. active_labels net x) same in
          let b = ap (λ x. top net * levels net x) same in
          let c = ap (λ x. labels net x) same in
          omega (arith, ih, one, a, b, c))
    ]
  where
    stale : (net : FlowNetwork) (s : State) (step : Step) → applies net s step ≡ false → after net s step ≡ s
    stale net s (Push arc) h = rw (h) refl
    stale net s (Relabel v) h = go (relabel_target net s v) h
      where
        go : (o : Option ℕ) → is_some o ≡ false → relabelled s v o ≡ s
        go None h = refl
        go (Some label) h = cc

bound_of : (n m k c lev lab : ℕ) → k ≤ 2 * n → lev ≤ m * k → lab ≤ n * k → c ≤ k * lev + 2 * lab → c ≤ 4 * n * n * m + 2 * n * m + 4 * n * n
bound_of n m k c lev lab low hl hd paid =
    let a : k * lev ≤ k * (m * k) = mul_le k lev (m * k) hl in
    let b : m * k ≤ m * (2 * n) = mul_le m k (2 * n) low in
    let d : k * (m * k) ≤ (2 * n) * (m * (2 * n)) = mul-le k (m * k) (2 * n) (m * (2 * n)) low b in
    let e : n * k ≤ n * (2 * n) = mul_le n k (2 * n) low in
    omega arith

-- No list of events, from the opening on, changes the state more often than this.
pub changes_le : (net : FlowNetwork) (events : List Event) → IsFlowNetwork net → changes net (opening net) events ≤ max_steps net
changes_le net events is =
    bound_of net.nodes (count net) (top net) (changes net s events) (levels net t) (labels net t) (omega arith)
    (total-at_most (count net) (λ i. level (import_at net i).amount (flow_at t i) (label_at t (import_at net i).from) (label_at t (import_at net i).to)) (top net)
    (λ i l. level_at_most (import_at net i).amount (flow_at t i) (label_at t (import_at net i).from) (label_at t (import_at net i).to) (top net) (kept_top net t kept' (import_at net i).from (is.from_low i l)) (kept_top net t kept' (import_at net i).to (is.to_low i l))))
    (total-at_most net.nodes (λ v. label_at t v) (top net) (λ v l. kept_top net t kept' v l))
    (omega (arith, changes_paid net s events is kept, none_active))
  where
    s : State
    s = opening net

    t : State
    t = run net (opening net) events

    kept : IsValidPreflow net s
    kept = opening_keeps net is

    kept' : IsValidPreflow net t
    kept' = run_keeps net s events is kept

    none_active : active_labels net s ≡ 0
    none_active = total-zero net.nodes (λ v. if is_active net s v then label_at s v else 0) each
      where
        each : (v : ℕ) → v < net.nodes → (if is_active net s v then label_at s v else 0) ≡ 0
        each v l = elim (true_or_false (is_active net s v)) [
          | inl e ↦ pick_true (is_active net s v) (label_at s v) 0 e ∙ opening_label net v (active_from net s v e).not_source
          | inr e ↦ pick_false (is_active net s v) (label_at s v) 0 e
        ]

-- in a legal list each event changes the state
pub changes_of_legal : (net : FlowNetwork) (s : State) (events : List Event) → is_legal net s events ≡ true → changes net s events ≡ length events
changes_of_legal net s [] e = refl
changes_of_legal net s (x ∷ xs) e =
    let one = pick_true (applies net s x.step) 1 0 (left_true (applies net s x.step) (is_legal net (after net s x.step) xs) e) in
    let ih = changes_of_legal net (after net s x.step) xs (right_true (applies net s x.step) (is_legal net (after net s x.step) xs) e) in
    omega (arith, one, ih)

-- so no legal history is longer
pub legal_le : (net : FlowNetwork) (events : List Event) → IsFlowNetwork net → is_legal net (opening net) events ≡ true → length events ≤ max_steps net
legal_le net events is e = omega (arith, changes_le net events is, changes_of_legal net (opening net) events e)
