use Rattle.cut_part.proofs.Reversal.{greatest_round, greatest_round_back}
use Rattle.cut_part.proofs.laws.reversed_maximum_is_maximum.Goals as goal

pub returns : goal.returns
returns c = λ net a b flow value between a_in b_in apart. (greatest_round net a b flow value between a_in apart, greatest_round_back net a b flow value between b_in apart)
