use Rattle.cut_part.proofs.Parts.{flow_of_small, greatest_of_small}
use Rattle.cut_part.proofs.laws.subnetwork_has_equal_flows.Goals as goal

pub returns-clause-flows : goal.returns-clause-flows
returns-clause-flows c = λ net small a b marks numbers new_numbers a_in b_in part. flow_of_small net a b a_in b_in marks numbers new_numbers small part

pub returns-clause-greatest : goal.returns-clause-greatest
returns-clause-greatest c = λ net small a b marks numbers new_numbers a_in b_in part. greatest_of_small net a b a_in b_in marks numbers new_numbers small part
