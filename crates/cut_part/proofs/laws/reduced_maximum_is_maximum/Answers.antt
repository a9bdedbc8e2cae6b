use Rattle.cut_part.proofs.CapacityReduction.{greatest_back}
use Rattle.cut_part.proofs.laws.reduced_maximum_is_maximum.Goals as goal

pub returns : goal.returns
returns c = greatest_back
