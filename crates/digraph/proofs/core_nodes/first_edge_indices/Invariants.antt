use Rattle.std.proofs.Common.{ℕ, ◌<◌, ◌≤◌, ◌≡◌, length}
use Rattle.digraph.specs.Marks.{StartsFrom, edge_at, index_at}
use Rattle.digraph.proofs.core_nodes.first_edge_indices.Given as goal

abbrev pub invariant-loop-place : goal.invariant-loop-place
invariant-loop-place l = record {
  size : length l.places.items ≡ l.nodes;
  starts : (v : ℕ) → v < l.nodes → StartsFrom l.edges v (index_at l.places.items v);
  above : (k : ℕ) → l.place ≤ k → k < length l.edges → index_at l.places.items (edge_at l.edges k).from ≤ k;
}
