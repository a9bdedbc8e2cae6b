use Rattle.std.proofs.Common.{arith}
use Rattle.std.proofs.lemmas.Grind.{common_steps}
use Rattle.ob_board.proofs.unresolved_list.concatenate_rows.Goals as goal

pub loop-found-preserved : goal.loop-found-preserved
loop-found-preserved g c = grind (arith, common_steps)
