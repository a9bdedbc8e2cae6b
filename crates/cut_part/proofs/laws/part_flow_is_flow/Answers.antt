use Rattle.cut_part.proofs.Subnetworks.{flow_of_part}
use Rattle.cut_part.proofs.laws.part_flow_is_flow.Goals as goal

pub returns : goal.returns
returns c = flow_of_part
