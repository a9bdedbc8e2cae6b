use Rattle.std.proofs.Common.{arith}
use Rattle.std.proofs.lemmas.Grind.{common_steps}
use Rattle.work_board.proofs.graph.empty_lists.Goals as goal

pub loop-preserved : goal.loop-preserved
loop-preserved c = grind (arith, common_steps)

pub returns-clause-size : goal.returns-clause-size
returns-clause-size c = grind (arith, common_steps)
