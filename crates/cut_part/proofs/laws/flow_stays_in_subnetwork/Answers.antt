use Rattle.cut_part.proofs.Subnetworks.{flow_in_part, none_outside}
use Rattle.cut_part.proofs.laws.flow_stays_in_subnetwork.Goals as goal

pub returns : goal.returns
returns c = λ net kept a b flow value between a_in acyclic those is_flow.
    let none = none_outside net a b flow value between a_in acyclic is_flow kept those in
    (none, flow_in_part net kept a b flow value none is_flow)
