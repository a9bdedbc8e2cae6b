use Rattle.std.proofs.Common.{◌≡◌, ◌<◌, vec_len}
use Rattle.std.specs.Prelude.{All}
use Rattle.residual_graph.proofs.order.remove_node.Given as goal

abbrev pub invariant-loop-out : goal.invariant-loop-out
invariant-loop-out l = record {
  counts : vec_len l.counts ≡ l.graph.nodes;
  free : All (λ n. n < l.graph.nodes) l.free.items;
}
