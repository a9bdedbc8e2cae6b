use Rattle.ob_targets.proofs.Unresolved.{refers_here}
use Rattle.ob_targets.proofs.laws.each_identifier_has_target.Goals as goal

pub returns : goal.returns
returns c = λ w rs k are is. refers_here w rs k are is
