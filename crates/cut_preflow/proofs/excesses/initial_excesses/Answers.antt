use Rattle.std.proofs.Common.{arith}
use Rattle.std.proofs.lemmas.Grind.{common_steps}
use Rattle.cut_preflow.proofs.excesses.initial_excesses.Goals as goal

pub add_initial_excess-requires-clause-none : goal.add_initial_excess-requires-clause-none
add_initial_excess-requires-clause-none c = grind (arith, common_steps)

pub add_initial_excess-requires-clause-active : goal.add_initial_excess-requires-clause-active
add_initial_excess-requires-clause-active c = grind (arith, common_steps)
