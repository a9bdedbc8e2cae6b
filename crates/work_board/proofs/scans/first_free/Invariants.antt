use Rattle.std.proofs.Common.{◌≡◌, ◌≤◌, ◌<◌, ◌-◌, ℕ, length}
use Rattle.work_board.specs.declared.state.State.TheVariants.{Free}
use Rattle.work_board.specs.Keeping.{state_at}
use Rattle.work_board.proofs.scans.first_free.Given as goal

abbrev pub invariant-places : goal.invariant-places
invariant-places l = (l.place ≤ length l.states) × ((k : ℕ) → k < l.place → state_at l.states k ≡ Free → ⊥)

abbrev pub decreases-places : goal.decreases-places
decreases-places l = length l.states - l.place
