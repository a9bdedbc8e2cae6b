use Rattle.cut_net.proofs.laws.reported_with_pins_are_needed.Goals as goal
use Rattle.cut_net.proofs.Pinned.{needed_with_pins}

pub returns : goal.returns
returns c = needed_with_pins
