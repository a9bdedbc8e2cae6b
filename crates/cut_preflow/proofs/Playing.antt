-- The code of a push and of a relabel preserves the invariant.
use Rattle.std.proofs.Common.{◌≡◌, ℕ, ◌+◌, ◌-◌, ◌/◌, ◌%◌, ◌^◌, ◌<◌, ◌≤◌, inl, inr, Bool, true, false, if◌then◌else◌, Option, Some, None, is_some, List, [], ◌∷◌, ◌++◌, length, slice_set, refl, sym, ap, ◌∙◌, arith}
use Rattle.cut_preflow.specs.declared.event.Step.{Step}
use Rattle.cut_preflow.specs.declared.event.Step.TheVariants.{Push, Relabel}
use Rattle.cut_preflow.specs.declared.event.Event.{Event}
use Rattle.cut_preflow.specs.declared.event.Outcome.{Outcome}
use Rattle.cut_preflow.specs.declared.event.Outcome.TheVariants.{Moved, Stale}
use Rattle.cut_preflow.specs.Preflow.{FlowNetwork, State, count, import_at, flow_at, is_forward, can_push, push_amount, pushed, relabel_target, relabelled, after, applies, run, opening, residual}
use Rattle.cut_preflow.specs.Trace.{IsSound, IsTrace, step_outcome, raised_outcome, history_after}
use Rattle.cut_preflow.proofs.Choices.{true_or_false, pick_true, pick_false}
use Rattle.cut_preflow.proofs.Totals.{term-le-total}
use Rattle.cut_preflow.proofs.Arcs.{Pushable, pushable_from, ahead, back, raisable_from, eq_true, eq_from}
use Rattle.cut_preflow.proofs.Kept.{Moves, moves}
use Rattle.cut_preflow.proofs.Histories.{played-push, run-push}

-- the value that a successful test returns
pub some_from : (b : Bool) (x y : ℕ) → Some y ≡ (if b then Some x else None) → (b ≡ true) × (y ≡ x)
some_from true x y e = (refl, cc)
some_from false x y e = cc

pub record PushFits (net : FlowNetwork) (s : State) (arc amount : ℕ) : Type 0 where
  pub on : can_push net s arc ≡ true
  pub is : amount ≡ push_amount net s arc
  pub below : arc / 2 < length s.flow
  pub ahead : arc % 2 ≡ 0 → flow_at s (arc / 2) + amount < 2 ^ 64
  pub back : (arc % 2 ≡ 0 → ⊥) → amount ≤ flow_at s (arc / 2)

-- a push that applies stays within the import's capacity and its flow
pub push_fits : (net : FlowNetwork) (s : State) (arc amount : ℕ) → IsSound net s → Some amount ≡ (if can_push net s arc then Some (push_amount net s arc) else None) → PushFits net s arc amount
push_fits net s arc amount sound e =
    record { on = got.0; is = got.1; below = omega (arith, can.below, sound.kept.flows); ahead = up; back = down }
  where
    got : (can_push net s arc ≡ true) × (amount ≡ push_amount net s arc)
    got = some_from (can_push net s arc) (push_amount net s arc) amount e

    can : Pushable net s arc
    can = pushable_from net s arc got.0

    pays : Moves net s arc
    pays = moves net s arc can

    up : arc % 2 ≡ 0 → flow_at s (arc / 2) + amount < 2 ^ 64
    up even =
        let way = ahead net s arc (eq_true (arc % 2) 0 even) in
        let within : flow_at s (arc / 2) ≤ (import_at net (arc / 2)).amount = sound.kept.fits (arc / 2) can.below in
        let part = term-le-total (count net) (λ i. (import_at net i).amount) (arc / 2) can.below in
        let fits : push_amount net s arc ≤ residual net s arc = pays.fits in
        omega (arith, got.1, way.residual_is, part, sound.limits.weights)

    down : (arc % 2 ≡ 0 → ⊥) → amount ≤ flow_at s (arc / 2)
    down odd =
        let way = back net s arc (not_even odd) in
        let fits : push_amount net s arc ≤ residual net s arc = pays.fits in
        omega (arith, got.1, way.residual_is)
      where
        not_even : (arc % 2 ≡ 0 → ⊥) → is_forward arc ≡ false
        not_even odd = elim (true_or_false (is_forward arc)) [
          | inl e ↦ absurd (odd (eq_from (arc % 2) 0 e))
          | inr e ↦ e
        ]

-- the flow on the import of an arc after a push over it
pub pushed_flow : (net : FlowNetwork) (s : State) (arc amount flow : ℕ) → PushFits net s arc amount → (arc % 2 ≡ 0 → flow ≡ flow_at s (arc / 2) + amount) → ((arc % 2 ≡ 0 → ⊥) → flow ≡ flow_at s (arc / 2) - amount) → slice_set s.flow (arc / 2) flow ≡ pushed net s arc
pushed_flow net s arc amount flow fits ahead back = elim (true_or_false (is_forward arc)) [
  | inl e ↦
      ap (λ y. slice_set s.flow (arc / 2) y)
      (ahead (eq_from (arc % 2) 0 e) ∙ ap (λ x. flow_at s (arc / 2) + x) fits.is ∙ sym (pick_true (is_forward arc) (flow_at s (arc / 2) + push_amount net s arc) (flow_at s (arc / 2) - push_amount net s arc) e))
  | inr e ↦
      ap (λ y. slice_set s.flow (arc / 2) y)
      (back (λ even. odd e (eq_true (arc % 2) 0 even)) ∙ ap (λ x. flow_at s (arc / 2) - x) fits.is ∙ sym (pick_false (is_forward arc) (flow_at s (arc / 2) + push_amount net s arc) (flow_at s (arc / 2) - push_amount net s arc) e))
]
  where
    odd : is_forward arc ≡ false → is_forward arc ≡ true → ⊥
    odd f t = cc

-- after a push that applies the flows and labels are those of the longer history
pub push_played : (net : FlowNetwork) (s : State) (history : List Event) (e : Event) (arc amount flow : ℕ) → IsTrace net s.flow s.label history → e.step ≡ Push arc → PushFits net s arc amount → (arc % 2 ≡ 0 → flow ≡ flow_at s (arc / 2) + amount) → ((arc % 2 ≡ 0 → ⊥) → flow ≡ flow_at s (arc / 2) - amount) → IsTrace net (slice_set s.flow (arc / 2) flow) s.label (history ++ e ∷ [])
push_played net s history e arc amount flow played is_push fits ahead back =
    played-push net s (record { flow = slice_set s.flow (arc / 2) flow; label = s.label }) history e played
    (ap (λ x. applies net s x) is_push ∙ fits.on)
    (ap (λ ys. record { flow = ys; label = s.label }) (pushed_flow net s arc amount flow fits ahead back)
    ∙ sym (ap (λ b. if b then record { flow = pushed net s arc; label = s.label } else s) fits.on)
    ∙ sym (ap (λ x. after net s x) is_push))

-- after a relabel that applies the flows and labels are those of the longer history
pub relabel_played : (net : FlowNetwork) (s : State) (history : List Event) (e : Event) (v label : ℕ) → IsTrace net s.flow s.label history → e.step ≡ Relabel v → relabel_target net s v ≡ Some label → IsTrace net s.flow (slice_set s.label v label) (history ++ e ∷ [])
relabel_played net s history e v label played is_relabel on =
    played-push net s (record { flow = s.flow; label = slice_set s.label v label }) history e played
    (ap (λ x. applies net s x) is_relabel ∙ ap (λ o. is_some o) on)
    (sym (ap (λ o. relabelled s v o) on) ∙ sym (ap (λ x. after net s x) is_relabel))

pub raised_low : (net : FlowNetwork) (s : State) (v label : ℕ) → relabel_target net s v ≡ Some label → v < net.nodes
raised_low net s v label on = (raisable_from net s v label on).active.low

-- the state of the history after an event, by its outcome
pub state_after : (net : FlowNetwork) (history : List Event) (e : Event) (outcome : Outcome) → outcome ≡ step_outcome net (run net (opening net) history) e.step → run net (opening net) (history_after history e outcome) ≡ after net (run net (opening net) history) e.step
state_after net history e outcome is =
    ap (λ o. run net (opening net) (history_after history e o)) is ∙ go (run net (opening net) history) refl e.step refl
  where
    appended : (step : Step) → e.step ≡ step → (s : State) → run net (opening net) history ≡ s → run net (opening net) (history ++ e ∷ []) ≡ after net s step
    appended step q s p = run-push net (opening net) history e ∙ ap (λ x. after net (run net (opening net) history) x) q ∙ ap (λ t. after net t step) p

    go : (s : State) → run net (opening net) history ≡ s → (step : Step) → e.step ≡ step → run net (opening net) (history_after history e (step_outcome net s step)) ≡ after net s step
    go s p (Push arc) q = elim (true_or_false (can_push net s arc)) [
      | inl on ↦
          ap (λ b. run net (opening net) (history_after history e (if b then Moved (push_amount net s arc) else Stale))) on ∙ appended (Push arc) q s p
      | inr off ↦
          ap (λ b. run net (opening net) (history_after history e (if b then Moved (push_amount net s arc) else Stale))) off ∙ p ∙ sym (ap (λ b. if b then record { flow = pushed net s arc; label = s.label } else s) off)
    ]
    go s p (Relabel v) q = by_raise (relabel_target net s v) refl
      where
        by_raise : (o : Option ℕ) → relabel_target net s v ≡ o → run net (opening net) (history_after history e (raised_outcome (relabel_target net s v))) ≡ relabelled s v (relabel_target net s v)
        by_raise None f = ap (λ o. run net (opening net) (history_after history e (raised_outcome o))) f ∙ p ∙ sym (ap (λ o. relabelled s v o) f)
        by_raise (Some label) f = ap (λ o. run net (opening net) (history_after history e (raised_outcome o))) f ∙ appended (Relabel v) q s p
