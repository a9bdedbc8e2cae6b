use Rattle.ob_board.proofs.OneIndex.{index_is_unique}
use Rattle.ob_board.proofs.laws.index_is_unique.Goals as goal

pub returns : goal.returns
returns c = index_is_unique
