use Rattle.std.proofs.Common.{arith}
use Rattle.std.proofs.lemmas.Grind.{common_steps}
use Rattle.ob_imports.proofs.ready.can_start.Goals as goal

pub returns-clause-can : goal.returns-clause-can
returns-clause-can c = grind (arith, common_steps)
