use Rattle.cut_part.proofs.Parts.{name_of_small, printed_of_small}
use Rattle.cut_part.proofs.laws.subnetwork_reports_equal_cut.Goals as goal

pub returns-clause-printed : goal.returns-clause-printed
returns-clause-printed c = λ net small a b marks numbers new_numbers a_in b_in part. printed_of_small net a b a_in b_in marks numbers new_numbers small part

pub returns-clause-names : goal.returns-clause-names
returns-clause-names c = λ net small a b marks numbers new_numbers part. name_of_small net a b marks numbers new_numbers small part
