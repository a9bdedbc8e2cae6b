use Rattle.std.proofs.Common.{◌≡◌}
use Rattle.cut_tests.proofs.preflows.append_shares.Given as goal

abbrev pub invariant-loop-call : goal.invariant-loop-call
invariant-loop-call g l = l.preflow.trace.net ≡ l.fn.preflow.trace.net
