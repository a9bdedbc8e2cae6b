use Rattle.std.proofs.Common.{arith}
use Rattle.std.proofs.lemmas.Grind.{common_steps}
use Rattle.ob_scan.proofs.words.four_letter_word.Goals as goal

pub returns-in-CASE : goal.returns-in-CASE
returns-in-CASE c = grind (arith, common_steps)

pub returns-in-ELSE : goal.returns-in-ELSE
returns-in-ELSE c = grind (arith, common_steps)

pub returns-in-THEN : goal.returns-in-THEN
returns-in-THEN c = grind (arith, common_steps)

pub returns-in-TRUE : goal.returns-in-TRUE
returns-in-TRUE c = grind (arith, common_steps)

pub returns-in-TYPE : goal.returns-in-TYPE
returns-in-TYPE c = grind (arith, common_steps)
