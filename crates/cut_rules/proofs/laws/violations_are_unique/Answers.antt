use Rattle.cut_rules.proofs.Violations.{violations_are_unique}
use Rattle.cut_rules.proofs.laws.violations_are_unique.Goals as goal

pub returns : goal.returns
returns c net files pieces a b first second = violations_are_unique net files pieces a b first second
