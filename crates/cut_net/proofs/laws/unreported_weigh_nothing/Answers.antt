use Rattle.cut_net.proofs.Needed.{weighs_nothing}
use Rattle.cut_net.proofs.laws.unreported_weigh_nothing.Goals as goal

pub returns : goal.returns
returns c = weighs_nothing
