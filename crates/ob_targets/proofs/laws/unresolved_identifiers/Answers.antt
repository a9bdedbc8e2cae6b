use Rattle.ob_targets.proofs.Unresolved.{exactly}
use Rattle.ob_targets.proofs.laws.unresolved_identifiers.Goals as goal

pub returns : goal.returns
returns c = λ w rs k are. exactly w rs k are
