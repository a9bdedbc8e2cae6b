use Rattle.std.proofs.Common.{◌≡◌, ◌<◌, ℕ, false}
use Rattle.work_board.specs.Marks.{marked}
use Rattle.work_board.proofs.flags.clear_flags.Given as goal

abbrev pub invariant-loop-place : goal.invariant-loop-place
invariant-loop-place l = (v : ℕ) → v < l.place → marked l.flags v ≡ false
