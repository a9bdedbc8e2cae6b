use Rattle.ob_imports.proofs.SomeOutcome.{outcome_exists}
use Rattle.ob_imports.proofs.laws.outcome_exists.Goals as goal

pub returns : goal.returns
returns c = outcome_exists
