use Rattle.std.proofs.Common.{◌≡◌, ◌≤◌, ◌<◌, ℕ, false}
use Rattle.work_board.specs.declared.state.State.TheVariants.{Free}
use Rattle.work_board.specs.Keeping.{state_at}
use Rattle.work_board.proofs.scans.any_free.Given as goal

abbrev pub invariant-loop-place : goal.invariant-loop-place
invariant-loop-place l = l.found ≡ false → (k : ℕ) → l.from ≤ k → k < l.place → state_at l.states k ≡ Free → ⊥
