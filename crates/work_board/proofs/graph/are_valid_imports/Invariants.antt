use Rattle.std.proofs.Common.{◌<◌, ◌≤◌, ℕ, length}
use Rattle.std.specs.Prelude.{All}
use Rattle.work_board.specs.Graphs.{lists, list_at}
use Rattle.work_board.proofs.graph.are_valid_imports.Given as goal

abbrev pub invariant-loop-row : goal.invariant-loop-row
invariant-loop-row l = (m : ℕ) → m < l.row-index → (length (list_at (lists l.rows) m) ≤ 65536) × All (λ w. w < l.count) (list_at (lists l.rows) m)
