use Rattle.cut_net.proofs.laws.reported_are_needed.Goals as goal
use Rattle.cut_net.proofs.Needed.{needed}

pub returns : goal.returns
returns c = needed
