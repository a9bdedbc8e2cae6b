-- While a step applies, the history is shorter than the bound.
use Rattle.std.proofs.Common.{◌≡◌, ◌<◌, true, List, [], ◌∷◌, ◌++◌, length, arith, length-append}
use Rattle.cut_preflow.specs.declared.event.Step.{Step}
use Rattle.cut_preflow.specs.declared.event.Event.{Event}
use Rattle.cut_preflow.specs.Preflow.{FlowNetwork, applies, is_legal, opening, run}
use Rattle.cut_preflow.specs.Bound.{max_steps}
use Rattle.cut_preflow.specs.Kept.{IsFlowNetwork}
use Rattle.cut_preflow.proofs.Histories.{legal-push}
use Rattle.cut_preflow.proofs.Bound.{legal_le}

pub shorter : (net : FlowNetwork) (history : List Event) (step : Step) → IsFlowNetwork net → is_legal net (opening net) history ≡ true → applies net (run net (opening net) history) step ≡ true → length history < max_steps net
shorter net history step is legal on =
    let e : Event = record { worker = 0; step = step } in
    let longer = legal_le net (history ++ e ∷ []) is (legal-push net (opening net) history e legal on) in
    omega (arith, longer, length-append history (e ∷ []))
