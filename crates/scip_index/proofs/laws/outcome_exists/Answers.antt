use Rattle.scip_index.proofs.OutcomeLaws.{outcome_exists}
use Rattle.scip_index.proofs.laws.outcome_exists.Goals as goal

pub returns : goal.returns
returns c = outcome_exists
