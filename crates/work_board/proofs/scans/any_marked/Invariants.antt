use Rattle.std.proofs.Common.{◌≡◌, ◌≤◌, ◌<◌, ℕ, false}
use Rattle.work_board.specs.Marks.{marked}
use Rattle.work_board.proofs.scans.any_marked.Given as goal

abbrev pub invariant-loop-place : goal.invariant-loop-place
invariant-loop-place l = l.found ≡ false → (v : ℕ) → l.from ≤ v → v < l.place → marked l.flags v ≡ false
