use Rattle.std.proofs.Common.{◌<◌, length}
use Rattle.std.specs.Prelude.{All}
use Rattle.cut_tests.proofs.orders.append_leaving_numbers.Given as goal

abbrev pub invariant-loop-out : goal.invariant-loop-out
invariant-loop-out l = All (λ k. k < length l.graph.arcs) l.numbers.items
