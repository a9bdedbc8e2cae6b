use Rattle.std.proofs.Common.{◌≡◌}
use Rattle.cut_tests.proofs.preflows.apply_all_steps.Given as goal

abbrev pub invariant-loop-turn : goal.invariant-loop-turn
invariant-loop-turn g l = l.preflow.trace.net ≡ l.fn.preflow.trace.net
