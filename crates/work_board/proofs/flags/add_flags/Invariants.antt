use Rattle.std.proofs.Common.{◌≡◌, ◌<◌, ◌≤◌, ℕ}
use Rattle.std.specs.Prelude.{◌||◌}
use Rattle.work_board.specs.Marks.{marked}
use Rattle.work_board.proofs.flags.add_flags.Given as goal

abbrev pub invariant-loop-place : goal.invariant-loop-place
invariant-loop-place l = record {
  done : (v : ℕ) → v < l.place → marked l.flags v ≡ (marked l.fn.flags v || marked l.more v);
  rest : (v : ℕ) → l.place ≤ v → marked l.flags v ≡ marked l.fn.flags v;
}
