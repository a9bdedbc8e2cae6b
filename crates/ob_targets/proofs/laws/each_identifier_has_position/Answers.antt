use Rattle.ob_targets.proofs.Somewhere.{identifier_somewhere}
use Rattle.ob_targets.proofs.laws.each_identifier_has_position.Goals as goal

pub returns : goal.returns
returns c = λ tokens m k d h e. identifier_somewhere tokens m k d h e
