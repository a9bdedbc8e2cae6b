use Rattle.std.proofs.Common.{◌≡◌, ◌<◌, vec_len}
use Rattle.std.specs.Prelude.{All}
use Rattle.initial_flow.proofs.distances.sink_distances.Given as goal

abbrev pub invariant-loop-place : goal.invariant-loop-place
invariant-loop-place l = record {
  labels : vec_len l.labels ≡ l.graph.nodes;
  reached : All (λ n. n < l.graph.nodes) l.reached.items;
}
