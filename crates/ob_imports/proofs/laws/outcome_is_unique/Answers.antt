use Rattle.ob_imports.proofs.OneOutcome.{outcome_is_unique}
use Rattle.ob_imports.proofs.laws.outcome_is_unique.Goals as goal

pub returns : goal.returns
returns c = outcome_is_unique
