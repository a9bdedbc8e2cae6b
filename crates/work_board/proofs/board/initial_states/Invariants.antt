use Rattle.std.proofs.Common.{◌≡◌, map, take}
use Rattle.work_board.specs.declared.state.State.TheVariants.{Waiting}
use Rattle.work_board.specs.Keeping.{state_after_delivery}
use Rattle.work_board.proofs.board.initial_states.Given as goal

abbrev pub invariant-loop-count : goal.invariant-loop-count
invariant-loop-count l = l.states.items ≡ map (state_after_delivery Waiting) (take l.count-index l.counts)
