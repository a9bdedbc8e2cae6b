use Rattle.std.proofs.Common.{arith}
use Rattle.std.proofs.lemmas.Grind.{common_steps}
use Rattle.ob_scan.proofs.number.decimal_token.Goals as goal

pub returns-then-not-begins_with_byte-clause-value : goal.returns-then-not-begins_with_byte-clause-value
returns-then-not-begins_with_byte-clause-value c = grind (arith, common_steps)

pub returns-clause-value : goal.returns-clause-value
returns-clause-value c = grind (arith, common_steps)
