use Rattle.source_tree.proofs.CrossedTrees.{weight_is_use_count}
use Rattle.source_tree.proofs.laws.weight_is_use_count.Goals as goal

pub returns : goal.returns
returns c = weight_is_use_count
