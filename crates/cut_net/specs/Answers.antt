-- The content of an answer as a value of the logic, with lists in place of vectors.
use Rattle.cut_net.specs.declared.cut.Cut.{Cut}
use Rattle.cut_net.specs.declared.answer.Answer.{Answer}
use Rattle.cut_net.specs.declared.answer.Answer.TheVariants as answers
use Rattle.cut_net.specs.AnswerClaim.{AnswerClaim, CutOf, BlockedBy}

-- the content of a cut
abbrev pub cut_claim : Cut → AnswerClaim
cut_claim cut = CutOf cut.weight cut.imports.items cut.flow.items

-- the content of an answer
abbrev pub answer_claim : Answer → AnswerClaim
answer_claim (answers.Cut cut) = cut_claim cut
answer_claim (answers.Blocked chain) = BlockedBy chain.items
