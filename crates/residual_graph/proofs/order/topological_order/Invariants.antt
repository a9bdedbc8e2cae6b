use Rattle.std.proofs.Common.{◌≡◌, ◌<◌, vec_len}
use Rattle.std.specs.Prelude.{All}
use Rattle.residual_graph.proofs.order.topological_order.Given as goal

abbrev pub invariant-loop : goal.invariant-loop
invariant-loop l = record {
  counts : vec_len l.counts ≡ l.graph.nodes;
  free : All (λ n. n < l.graph.nodes) l.free.items;
  order : All (λ n. n < l.graph.nodes) l.order.items;
}
