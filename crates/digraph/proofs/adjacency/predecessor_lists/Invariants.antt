use Rattle.std.proofs.Common.{◌≡◌, ℕ, take, vec_len}
use Rattle.digraph.specs.Edges.{predecessors}
use Rattle.digraph.specs.Marks.{lists, list_at}
use Rattle.digraph.proofs.adjacency.predecessor_lists.Given as goal

abbrev pub invariant-loop-edge : goal.invariant-loop-edge
invariant-loop-edge l = (vec_len l.rows ≡ l.nodes) × ((v : ℕ) → list_at (lists l.rows.items) v ≡ predecessors (take l.edge-index l.edges) v)
