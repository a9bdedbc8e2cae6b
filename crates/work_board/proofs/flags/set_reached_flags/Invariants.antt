use Rattle.std.proofs.Common.{◌≡◌, ◌<◌, ℕ, true, take, length}
use Rattle.std.specs.Prelude.{◌↔◌}
use Rattle.work_board.specs.Graphs.{lists}
use Rattle.work_board.specs.Marks.{marked, IsReachedBy}
use Rattle.work_board.proofs.flags.set_reached_flags.Given as goal

abbrev pub invariant-loop-w : goal.invariant-loop-w
invariant-loop-w l = (v : ℕ) → v < length l.fn.flags → (marked l.flags v ≡ true) ↔ IsReachedBy (lists l.reached) (take l.w-index l.row) v
