use Rattle.ob_scan.proofs.Outcomes.{outcome_once}
use Rattle.ob_scan.proofs.laws.outcome_is_unique.Goals as goal

pub returns : goal.returns
returns c = outcome_once
