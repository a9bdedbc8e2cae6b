use Rattle.cut_net.proofs.laws.residual_reach_is_source_side.Goals as goal
use Rattle.cut_net.proofs.NearSide.{is_near}

pub returns : goal.returns
returns c = λ net a b flow value modules between a_in is_flow reached ends. is_near net a b flow value between a_in is_flow modules reached ends
