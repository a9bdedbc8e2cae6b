use Rattle.std.proofs.Common.{◌≡◌}
use Rattle.cut_tests.proofs.earlier.Scenario.return_excess.Given as goal

abbrev pub invariant-loop-place : goal.invariant-loop-place
invariant-loop-place l = l.self.nodes ≡ l.initial.self.nodes
