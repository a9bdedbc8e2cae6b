use Rattle.cut_net.proofs.laws.reported_is_cheapest.Goals as goal
use Rattle.cut_net.proofs.NearSide.{is_cheapest, weighs}

pub returns : goal.returns
returns c = λ net a b flow value modules between a_in is_flow reached ends x printed.
    (is_cheapest net a b flow value between a_in is_flow modules reached ends x printed, weighs net a b flow value between a_in is_flow modules reached ends x printed)
