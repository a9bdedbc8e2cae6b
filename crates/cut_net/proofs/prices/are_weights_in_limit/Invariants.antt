use Rattle.std.proofs.Common.{◌≡◌, ◌≤◌, take}
use Rattle.std.specs.Prelude.{sum_by}
use Rattle.cut_net.specs.Pins.{most_weight}
use Rattle.cut_net.specs.PriceReading.{weight_if_unpinned}
use Rattle.cut_net.proofs.prices.are_weights_in_limit.Given as goal

abbrev pub invariant-loop-pin_state : goal.invariant-loop-pin_state
invariant-loop-pin_state l = (l.total ≡ sum_by weight_if_unpinned (take l.pin_state-index l.pin_states)) × (l.total ≤ most_weight)
