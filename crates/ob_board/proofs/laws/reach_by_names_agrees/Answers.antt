use Rattle.ob_board.proofs.Chained.{reaches_alike}
use Rattle.ob_board.proofs.laws.reach_by_names_agrees.Goals as goal

pub returns : goal.returns
returns c = reaches_alike
