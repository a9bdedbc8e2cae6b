use Rattle.std.proofs.Common.{◌≡◌, ◌<◌, ◌≤◌, ℕ, length}
use Rattle.std.specs.Prelude.{All}
use Rattle.work_board.specs.Graphs.{lists, list_at, occurrences_in}
use Rattle.work_board.proofs.graph.importer_lists.Given as goal

abbrev pub invariant-loop-place : goal.invariant-loop-place
invariant-loop-place l = record {
  size : length (lists l.rows.items) ≡ length (lists l.imports);
  done : (n x : ℕ) → x < l.place → occurrences_in x (list_at (lists l.rows.items) n) ≡ occurrences_in n (list_at (lists l.imports) x);
  rest : (n x : ℕ) → l.place ≤ x → occurrences_in x (list_at (lists l.rows.items) n) ≡ 0;
  within : (n : ℕ) → All (λ m. m < length (lists l.imports)) (list_at (lists l.rows.items) n);
}
