use Rattle.std.proofs.Common.{◌≡◌}
use Rattle.cut_tests.proofs.preflows.append_count.Given as goal

abbrev pub invariant-loop-counted : goal.invariant-loop-counted
invariant-loop-counted g l = l.preflow.trace.net ≡ l.fn.preflow.trace.net
