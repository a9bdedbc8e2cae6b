use Rattle.std.proofs.Common.{◌≡◌, ◌<◌, vec_len}
use Rattle.std.specs.Prelude.{All}
use Rattle.cut_tests.proofs.earlier.label_predecessors.Given as goal

abbrev pub invariant-loop-out : goal.invariant-loop-out
invariant-loop-out l = record {
  labels : vec_len l.labels ≡ l.graph.nodes;
  reached : All (λ n. n < l.graph.nodes) l.reached.items;
}
