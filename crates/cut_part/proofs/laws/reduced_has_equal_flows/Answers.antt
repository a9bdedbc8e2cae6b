use Rattle.cut_part.proofs.CapacityReduction.{flow_back}
use Rattle.cut_part.proofs.laws.reduced_has_equal_flows.Goals as goal

pub returns : goal.returns
returns c = λ old new a b reduced_capacities flow value by_ends. (reduced_capacities.flows flow value by_ends, flow_back old new a b reduced_capacities flow value by_ends)
