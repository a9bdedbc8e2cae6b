use Rattle.source_tree.proofs.NoTreeFault.{no_tree_fault}
use Rattle.source_tree.proofs.laws.no_fault_of_a_tree.Goals as goal

pub returns : goal.returns
returns c = no_tree_fault
