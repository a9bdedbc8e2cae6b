use Rattle.cut_net.proofs.OnePricing.{price_outcome_is_unique}
use Rattle.cut_net.proofs.laws.price_outcome_is_unique.Goals as goal

pub returns : goal.returns
returns c = price_outcome_is_unique
