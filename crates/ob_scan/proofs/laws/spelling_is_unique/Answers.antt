use Rattle.ob_scan.proofs.Outcomes.{spelled_once}
use Rattle.ob_scan.proofs.laws.spelling_is_unique.Goals as goal

pub returns : goal.returns
returns c = spelled_once
