use Rattle.cut_part.proofs.Renumbering.{flow_down_is, flow_up_is, greatest_up_is}
use Rattle.cut_part.proofs.laws.renumbered_has_equal_flows.Goals as goal

pub returns-clause-flows : goal.returns-clause-flows
returns-clause-flows c = λ whole small number back is a b a_in b_in flow value.
    (flow_up_is whole small number back is a b a_in b_in flow value, flow_down_is whole small number back is a b a_in b_in flow value)

pub returns-clause-greatest : goal.returns-clause-greatest
returns-clause-greatest c = greatest_up_is
