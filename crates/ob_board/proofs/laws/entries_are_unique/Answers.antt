use Rattle.ob_board.proofs.OneIndex.{entries_are_unique}
use Rattle.ob_board.proofs.laws.entries_are_unique.Goals as goal

pub returns : goal.returns
returns c = entries_are_unique
