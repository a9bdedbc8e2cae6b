use Rattle.cut_net.proofs.laws.weak_duality_with_pins.Goals as goal
use Rattle.cut_net.proofs.Pinned.{weak_duality}

pub returns : goal.returns
returns c = weak_duality
