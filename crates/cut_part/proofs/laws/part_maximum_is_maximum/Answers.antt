use Rattle.cut_part.proofs.Subnetworks.{greatest_of_part}
use Rattle.cut_part.proofs.laws.part_maximum_is_maximum.Goals as goal

pub returns : goal.returns
returns c = greatest_of_part
