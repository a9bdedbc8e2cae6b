use Rattle.std.proofs.Common.{◌≡◌, map, take}
use Rattle.std.specs.List.{flat_map}
use Rattle.cut_net.specs.declared.priced.Priced.{Priced}
use Rattle.cut_net.specs.declared.pin_state.PinState.{PinState}
use Rattle.cut_net.specs.Prices.{pin_of_state}
use Rattle.cut_net.proofs.prices.pins_of_states.Given as goal

abbrev pub invariant-loop-number : goal.invariant-loop-number
invariant-loop-number l = (pin_state : Priced → PinState) → l.pin_states ≡ map pin_state l.imports → l.pins.items ≡ flat_map (λ i. pin_of_state i (pin_state i)) (take l.number l.imports)
