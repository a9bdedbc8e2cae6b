use Rattle.std.proofs.Common.{arith}
use Rattle.std.proofs.lemmas.Grind.{common_steps}
use Rattle.ob_board.proofs.writing.gather.Goals as goal

pub loop-encoded-preserved : goal.loop-encoded-preserved
loop-encoded-preserved g c = grind (arith, common_steps)
