use Rattle.cut_part.proofs.CapacityReduction.{narrowed_twice}
use Rattle.cut_part.proofs.laws.reductions_compose.Goals as goal

pub returns : goal.returns
returns c = narrowed_twice
