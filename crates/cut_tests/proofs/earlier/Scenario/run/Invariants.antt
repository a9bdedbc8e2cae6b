use Rattle.std.proofs.Common.{◌≡◌}
use Rattle.cut_tests.proofs.earlier.Scenario.run.Given as goal

abbrev pub invariant-loop : goal.invariant-loop
invariant-loop l = l.self.nodes ≡ l.initial.self.nodes
