use Rattle.ob_scan.proofs.Continuing.{outcome_exists}
use Rattle.ob_scan.proofs.laws.outcome_exists.Goals as goal

pub returns : goal.returns
returns c = outcome_exists
