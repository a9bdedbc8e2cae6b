use Rattle.std.proofs.Common.{◌≡◌, map, take}
use Rattle.cut_net.specs.declared.priced.Priced.{Priced}
use Rattle.cut_net.specs.declared.pin_state.PinState.{PinState}
use Rattle.cut_net.specs.Prices.{import_with_state}
use Rattle.cut_net.proofs.prices.imports_with_states.Given as goal

abbrev pub invariant-loop-number : goal.invariant-loop-number
invariant-loop-number l = (pin_state : Priced → PinState) → l.pin_states ≡ map pin_state l.imports → l.changed.items ≡ map (λ i. import_with_state i (pin_state i)) (take l.number l.imports)
