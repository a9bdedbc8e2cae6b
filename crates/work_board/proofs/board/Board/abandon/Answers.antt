use Rattle.std.proofs.Common.{arith}
use Rattle.std.proofs.lemmas.Grind.{common_steps}
use Rattle.work_board.proofs.board.Board.abandon.Goals as goal

pub returns-in-Some-Claimed : goal.returns-in-Some-Claimed
returns-in-Some-Claimed g c = grind (arith, common_steps)

pub returns : goal.returns
returns g c = grind (arith, common_steps)

pub returns-2 : goal.returns-2
returns-2 g c = grind (arith, common_steps)
