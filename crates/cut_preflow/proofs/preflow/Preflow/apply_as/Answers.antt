use Rattle.std.proofs.Common.{arith}
use Rattle.std.proofs.lemmas.Grind.{common_steps}
use Rattle.cut_preflow.proofs.preflow.Preflow.apply_as.Goals as goal

pub overflow_add-share : goal.overflow_add-share
overflow_add-share g c = grind (arith, common_steps)

pub invariant_of-self : goal.invariant_of-self
invariant_of-self g c = grind (arith, common_steps)
