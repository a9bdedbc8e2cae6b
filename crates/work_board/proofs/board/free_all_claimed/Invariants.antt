use Rattle.std.proofs.Common.{◌≡◌, ◌<◌, ◌≤◌, ℕ}
use Rattle.work_board.specs.Keeping.{state_after_release, state_at}
use Rattle.work_board.proofs.board.free_all_claimed.Given as goal

abbrev pub invariant-loop-place : goal.invariant-loop-place
invariant-loop-place l = record {
  done : (k : ℕ) → k < l.place → state_at l.states k ≡ state_after_release (state_at l.fn.states k);
  rest : (k : ℕ) → l.place ≤ k → state_at l.states k ≡ state_at l.fn.states k;
}
