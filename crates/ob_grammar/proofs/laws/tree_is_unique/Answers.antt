use Rattle.ob_grammar.proofs.OneTree.{trees_same}
use Rattle.ob_grammar.proofs.laws.tree_is_unique.Goals as goal

pub returns : goal.returns
returns c = trees_same
