use Rattle.std.proofs.Common.{◌<◌, length}
use Rattle.std.specs.Prelude.{All}
use Rattle.cut_tests.proofs.orders.numbers_by_tail.Given as goal

abbrev pub invariant-loop-node : goal.invariant-loop-node
invariant-loop-node l = All (λ k. k < length l.graph.arcs) l.numbers.items
