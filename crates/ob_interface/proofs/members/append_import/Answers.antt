use Rattle.std.proofs.Common.{arith}
use Rattle.std.proofs.lemmas.Grind.{common_steps}
use Rattle.ob_interface.proofs.members.append_import.Goals as goal

pub returns-clause-grown : goal.returns-clause-grown
returns-clause-grown c = grind (arith, common_steps)

pub returns-clause-decoded : goal.returns-clause-decoded
returns-clause-decoded c = grind (arith, common_steps)
