use Rattle.cut_part.proofs.CapacityReduction.{lowered_all}
use Rattle.cut_part.proofs.laws.reductions_keep_flows.Goals as goal

pub returns : goal.returns
returns c = lowered_all
