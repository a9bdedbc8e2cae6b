use Rattle.std.proofs.Common.{arith}
use Rattle.std.proofs.lemmas.Grind.{common_steps}
use Rattle.ob_scan.proofs.Numbers.{hex_digits_some}
use Rattle.ob_scan.proofs.number.number_token.Goals as goal

pub returns-in-72-clause-some : goal.returns-in-72-clause-some
returns-in-72-clause-some c = grind (arith, hex_digits_some)

pub returns-in-72-clause-value : goal.returns-in-72-clause-value
returns-in-72-clause-value c = grind (arith, common_steps)

pub returns-in-72-clause-within : goal.returns-in-72-clause-within
returns-in-72-clause-within c = grind (arith, hex_digits_some)

pub returns-in-88-clause-some : goal.returns-in-88-clause-some
returns-in-88-clause-some c = grind (arith, hex_digits_some)

pub returns-in-88-clause-value : goal.returns-in-88-clause-value
returns-in-88-clause-value c = grind (arith, common_steps)

pub returns-in-88-clause-within : goal.returns-in-88-clause-within
returns-in-88-clause-within c = grind (arith, hex_digits_some)

pub returns-in_default-clause-some : goal.returns-in_default-clause-some
returns-in_default-clause-some c = grind (arith, hex_digits_some)

pub returns-in_default-clause-value : goal.returns-in_default-clause-value
returns-in_default-clause-value c = grind (arith, common_steps)

pub returns-in_default-clause-within : goal.returns-in_default-clause-within
returns-in_default-clause-within c = grind (arith, hex_digits_some)

pub returns-in_default-2-clause-some : goal.returns-in_default-2-clause-some
returns-in_default-2-clause-some c = grind (arith, hex_digits_some)

pub returns-in_default-2-clause-value : goal.returns-in_default-2-clause-value
returns-in_default-2-clause-value c = grind (arith, common_steps)

pub returns-in_default-2-clause-within : goal.returns-in_default-2-clause-within
returns-in_default-2-clause-within c = grind (arith, hex_digits_some)
