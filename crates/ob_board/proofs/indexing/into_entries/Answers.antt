use Rattle.std.proofs.Common.{arith}
use Rattle.std.proofs.lemmas.Grind.{common_steps}
use Rattle.ob_board.proofs.indexing.into_entries.Goals as goal

pub loop-built-preserved : goal.loop-built-preserved
loop-built-preserved g c = grind (arith, common_steps)
