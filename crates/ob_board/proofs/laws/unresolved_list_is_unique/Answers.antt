use Rattle.ob_board.proofs.OneIndex.{unresolved_list_is_unique}
use Rattle.ob_board.proofs.laws.unresolved_list_is_unique.Goals as goal

pub returns : goal.returns
returns c = unresolved_list_is_unique
