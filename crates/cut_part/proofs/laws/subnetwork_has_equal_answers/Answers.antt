use Rattle.cut_part.proofs.Whole.{answer_up, cheapest_up}
use Rattle.cut_part.proofs.laws.subnetwork_has_equal_answers.Goals as goal

pub returns-clause-answer : goal.returns-clause-answer
returns-clause-answer c = λ net small a b marks numbers new_numbers a_in b_in part. answer_up net a b a_in b_in marks numbers new_numbers small part

pub returns-clause-cheapest : goal.returns-clause-cheapest
returns-clause-cheapest c = λ net small a b marks numbers new_numbers a_in b_in part. cheapest_up net a b a_in b_in marks numbers new_numbers small part
