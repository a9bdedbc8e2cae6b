use Rattle.source_tree.proofs.OneTreeNet.{one_net}
use Rattle.source_tree.proofs.laws.network_is_unique.Goals as goal

pub returns : goal.returns
returns c = one_net
