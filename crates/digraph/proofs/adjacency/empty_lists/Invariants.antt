use Rattle.std.proofs.Common.{ℕ, ◌≡◌, [], vec_len}
use Rattle.digraph.specs.Marks.{lists, list_at}
use Rattle.digraph.proofs.adjacency.empty_lists.Given as goal

abbrev pub invariant-loop : goal.invariant-loop
invariant-loop l = record {
  size : vec_len l.rows ≡ l.counter;
  none : (v : ℕ) → list_at (lists l.rows.items) v ≡ [];
}
