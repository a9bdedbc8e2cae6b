use Rattle.std.proofs.Common.{◌≡◌}
use Rattle.cut_tests.proofs.preflows.append_steps.Given as goal

abbrev pub invariant-loop-step : goal.invariant-loop-step
invariant-loop-step g l = l.preflow.trace.net ≡ l.fn.preflow.trace.net
