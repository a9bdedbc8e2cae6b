use Rattle.cut_part.proofs.CapacityReduction.{lowered_at}
use Rattle.cut_part.proofs.laws.reduction_keeps_flows.Goals as goal

pub returns : goal.returns
returns c = lowered_at
