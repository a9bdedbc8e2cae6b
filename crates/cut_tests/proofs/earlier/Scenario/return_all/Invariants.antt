use Rattle.std.proofs.Common.{◌≡◌}
use Rattle.cut_tests.proofs.earlier.Scenario.return_all.Given as goal

abbrev pub invariant-loop-back : goal.invariant-loop-back
invariant-loop-back l = l.self.nodes ≡ l.initial.self.nodes
