use Rattle.std.proofs.Common.{◌≡◌, ◌≤◌, ◌<◌, ◌-◌, ℕ, length}
use Rattle.work_board.specs.declared.state.State.TheVariants.{Free}
use Rattle.work_board.specs.Keeping.{state_at}
use Rattle.work_board.proofs.scans.skip_blocks_without_free.Given as goal

abbrev pub invariant-rounds : goal.invariant-rounds
invariant-rounds l = (l.place ≤ length l.states) × ((k : ℕ) → k < l.place → state_at l.states k ≡ Free → ⊥)

abbrev pub decreases-rounds : goal.decreases-rounds
decreases-rounds l = length l.states - l.place
