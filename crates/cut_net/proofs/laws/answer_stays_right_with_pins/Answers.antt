use Rattle.cut_net.proofs.laws.answer_stays_right_with_pins.Goals as goal
use Rattle.cut_net.proofs.Pinned.{answer_is, cheapest_said}

pub returns-clause-answer : goal.returns-clause-answer
returns-clause-answer c net a b claim pins none = answer_is net a b pins none claim

pub returns-clause-cheapest : goal.returns-clause-cheapest
returns-clause-cheapest c net a b claim pins none = cheapest_said net a b pins none claim
