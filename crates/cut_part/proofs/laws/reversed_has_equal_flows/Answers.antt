use Rattle.cut_part.proofs.Reversal.{flow_round, flow_round_back}
use Rattle.cut_part.proofs.laws.reversed_has_equal_flows.Goals as goal

pub returns : goal.returns
returns c = λ net a b flow value between a_in b_in apart. (flow_round net a b flow value between a_in apart, flow_round_back net a b flow value between b_in apart)
