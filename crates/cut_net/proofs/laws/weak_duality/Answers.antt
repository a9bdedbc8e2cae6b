use Rattle.cut_net.proofs.laws.weak_duality.Goals as goal
use Rattle.cut_net.proofs.Certificate.{weak_duality}

pub returns : goal.returns
returns c = weak_duality
