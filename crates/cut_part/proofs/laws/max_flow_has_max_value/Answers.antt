use Rattle.cut_part.proofs.Greatest.{barrier_by_reached, end_unreached, most}
use Rattle.cut_part.proofs.laws.max_flow_has_max_value.Goals as goal

pub returns-clause-most : goal.returns-clause-most
returns-clause-most c = λ net a b flow value between a_in greatest. most net a b flow value between a_in greatest.is_flow greatest.barred

pub returns-clause-unreached : goal.returns-clause-unreached
returns-clause-unreached c = λ net a b flow modules those. (λ barred. end_unreached net a b flow modules barred those, λ end. (modules, barrier_by_reached net a b flow modules those end))
