-- A preflow runs to completion: while a node is active a step applies, and no legal list of events is longer than the bound.
use Rattle.std.proofs.Common.{◌≡◌, ℕ, zero, suc, ◌+◌, ◌≤◌, ◌<◌, ◌⊎◌, inl, inr, true, false, is_some, List, [], ◌∷◌, ◌++◌, length, length-append, refl, sym, ap, subst, arith}
use Rattle.std.proofs.lemmas.Bool.{both_ways, cases_Bool, cases_eq, false_from_ne_true}
use Rattle.cut_preflow.specs.declared.event.Event.{Event}
use Rattle.cut_preflow.specs.declared.event.Step.{Step}
use Rattle.cut_preflow.specs.declared.event.Step.TheVariants.{Push, Relabel}
use Rattle.cut_preflow.specs.Bound.{max_steps}
use Rattle.cut_preflow.specs.Kept.{IsFlowNetwork, IsQuiet, IsValidPreflow}
use Rattle.cut_preflow.specs.Preflow.{FlowNetwork, State, applies, is_active, is_legal, opening, run}
use Rattle.cut_preflow.proofs.Arcs.{active_from}
use Rattle.cut_preflow.proofs.Histories.{legal-push}
use Rattle.cut_preflow.proofs.Longer.{shorter}
use Rattle.cut_preflow.proofs.Opening.{runs_keep}
use Rattle.cut_preflow.proofs.Progress.{progress}

module _ (net : FlowNetwork) (is : IsFlowNetwork net) where
  abbrev HasActive : State → Type 0
  HasActive s = (v : ℕ) × (is_active net s v ≡ true)

  active_below : (s : State) (n : ℕ) → HasActive s ⊎ ((v : ℕ) → v < n → is_active net s v ≡ false)
  active_below s zero = inr (λ v lt. absurd (omega arith))
  active_below s (suc n) = elim (active_below s n) [
    | inl found ↦ inl found
    | inr none ↦ elim (cases_Bool (is_active net s n)) [
      | inl t ↦ inl (n, t)
      | inr f ↦ inr (λ v lt. elim (cases_eq v n) [ inl e ↦ subst (λ (u : ℕ). is_active net s u ≡ false) (sym e) f | inr ne ↦ none v (omega arith) ])
    ]
  ]

  active_or_quiet : (s : State) → HasActive s ⊎ IsQuiet net s
  active_or_quiet s = elim (active_below s net.nodes) [
    | inl found ↦ inl found
    | inr none ↦ inr (λ v. false_from_ne_true (is_active net s v) (λ t. both_ways (is_active net s v) (none v (active_from net s v t).low) t))
  ]

  residual_arc_at : (s : State) → IsValidPreflow net s → HasActive s → (step : Step) × (applies net s step ≡ true)
  residual_arc_at s kept (v, t) = elim (progress net s v kept (active_from net s v t)) [
    | inl w ↦ (Push w.0, w.3)
    | inr w ↦ (Relabel v, ap (λ o. is_some o) w.1)
  ]

  abbrev Rests : Type 0
  Rests = (events : List Event) × IsQuiet net (run net (opening net) events)

  next_at : (history : List Event) → HasActive (run net (opening net) history) → (step : Step) × (applies net (run net (opening net) history) step ≡ true)
  next_at history active = residual_arc_at (run net (opening net) history) (runs_keep net history is) active

  rests_within : (fuel : ℕ) (history : List Event) → is_legal net (opening net) history ≡ true → max_steps net ≤ length history + fuel → Rests
  rests_within zero history legal enough = elim (active_or_quiet (run net (opening net) history)) [
    | inr quiet ↦ (history, quiet)
    | inl active ↦
        let step = next_at history active in
        let few = shorter net history step.0 is legal step.1 in
        absurd (omega arith)
  ]
  rests_within (suc fuel) history legal enough = elim (active_or_quiet (run net (opening net) history)) [
    | inr quiet ↦ (history, quiet)
    | inl active ↦
        let step = next_at history active in
        let e : Event = record { worker = 0; step = step.0 } in
        let longer = length-append history (e ∷ []) in
        rests_within fuel (history ++ e ∷ []) (legal-push net (opening net) history e legal step.1) (omega arith)
  ]

  pub rests : Rests
  rests = rests_within (max_steps net) [] refl (omega arith)
