use Rattle.cut_solve.proofs.SomeAnswer.{outcome_exists}
use Rattle.cut_solve.proofs.laws.outcome_exists.Goals as goal

pub returns : goal.returns
returns c = outcome_exists
