use Rattle.cut_solve.proofs.OneAnswer.{outcome_is_unique_but_for_flow}
use Rattle.cut_solve.proofs.laws.outcome_is_unique_but_for_flow.Goals as goal

pub returns : goal.returns
returns c = outcome_is_unique_but_for_flow
