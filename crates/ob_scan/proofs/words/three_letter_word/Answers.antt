use Rattle.std.proofs.Common.{arith}
use Rattle.std.proofs.lemmas.Grind.{common_steps}
use Rattle.ob_scan.proofs.words.three_letter_word.Goals as goal

pub returns-in-DIV : goal.returns-in-DIV
returns-in-DIV c = grind (arith, common_steps)

pub returns-in-END : goal.returns-in-END
returns-in-END c = grind (arith, common_steps)

pub returns-in-FOR : goal.returns-in-FOR
returns-in-FOR c = grind (arith, common_steps)

pub returns-in-MOD : goal.returns-in-MOD
returns-in-MOD c = grind (arith, common_steps)

pub returns-in-NIL : goal.returns-in-NIL
returns-in-NIL c = grind (arith, common_steps)

pub returns-in-VAR : goal.returns-in-VAR
returns-in-VAR c = grind (arith, common_steps)
