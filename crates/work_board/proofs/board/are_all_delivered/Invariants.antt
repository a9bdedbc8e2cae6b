use Rattle.std.proofs.Common.{◌≡◌, ◌<◌, ℕ}
use Rattle.work_board.specs.declared.state.State.TheVariants.{Delivered}
use Rattle.work_board.specs.Keeping.{state_at}
use Rattle.work_board.proofs.board.are_all_delivered.Given as goal

abbrev pub invariant-loop-place : goal.invariant-loop-place
invariant-loop-place l = (k : ℕ) → k < l.place → state_at l.states k ≡ Delivered
