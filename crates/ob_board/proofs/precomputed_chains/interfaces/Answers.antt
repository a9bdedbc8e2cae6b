use Rattle.std.proofs.Common.{arith}
use Rattle.std.proofs.lemmas.Grind.{common_steps}
use Rattle.ob_board.proofs.precomputed_chains.interfaces.Goals as goal

pub loop-parts-preserved : goal.loop-parts-preserved
loop-parts-preserved c = grind (arith, common_steps)
