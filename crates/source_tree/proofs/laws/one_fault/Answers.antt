use Rattle.source_tree.proofs.OneTreeFault.{one_tree_fault}
use Rattle.source_tree.proofs.laws.one_fault.Goals as goal

pub returns : goal.returns
returns c = one_tree_fault
