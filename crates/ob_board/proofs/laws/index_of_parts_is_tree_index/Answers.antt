use Rattle.ob_board.proofs.Gathering.{index_of_parts_is_tree_index}
use Rattle.ob_board.proofs.laws.index_of_parts_is_tree_index.Goals as goal

pub returns : goal.returns
returns c = index_of_parts_is_tree_index
