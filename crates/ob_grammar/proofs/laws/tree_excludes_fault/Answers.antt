use Rattle.ob_grammar.proofs.OneTree.{no_fault}
use Rattle.ob_grammar.proofs.laws.tree_excludes_fault.Goals as goal

pub returns : goal.returns
returns c = no_fault
