use Rattle.std.proofs.Common.{◌≡◌, map, take}
use Rattle.std.specs.Prelude.{Option}
use Rattle.cut_net.specs.declared.priced.Priced.{Priced}
use Rattle.cut_net.specs.declared.pin_state.Change.{Change}
use Rattle.cut_net.specs.Prices.{pin_state_of, changed_state}
use Rattle.cut_net.proofs.prices.pin_states_of.Given as goal

abbrev pub invariant-loop-number : goal.invariant-loop-number
invariant-loop-number l = (claim : Priced → Option Change) → l.changes ≡ map claim l.net.imports → l.pin_states.items ≡ map (λ i. changed_state (pin_state_of l.net i) (claim i)) (take l.number l.net.imports)
