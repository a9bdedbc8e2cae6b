use Rattle.cut_net.proofs.OneNetReading.{outcome_is_unique}
use Rattle.cut_net.proofs.laws.outcome_is_unique.Goals as goal

pub returns : goal.returns
returns c = outcome_is_unique
