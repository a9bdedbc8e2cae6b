use Rattle.cut_solve.proofs.Refusals.{error_is_unique}
use Rattle.cut_solve.proofs.laws.error_is_unique.Goals as goal

pub returns : goal.returns
returns c = error_is_unique
