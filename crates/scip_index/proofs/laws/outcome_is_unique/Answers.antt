use Rattle.scip_index.proofs.OutcomeLaws.{outcome_is_unique}
use Rattle.scip_index.proofs.laws.outcome_is_unique.Goals as goal

pub returns : goal.returns
returns c = outcome_is_unique
