use Rattle.ob_targets.proofs.Referred.{target_once, role_once}
use Rattle.ob_targets.proofs.laws.target_is_unique.Goals as goal

pub returns : goal.returns
returns c = record { target = λ w k t u r s. target_once w k t u r s; role = λ w k t u r s. role_once w k t u r s }
