use Rattle.std.proofs.Common.{◌≡◌, ◌<◌, ◌+◌, ℕ, length, take}
use Rattle.std.specs.Prelude.{slice_index}
use Rattle.work_board.specs.Graphs.{occurrences_in}
use Rattle.work_board.specs.Keeping.{state_after_delivery, state_at}
use Rattle.work_board.proofs.board.decrement_waiting.Given as goal

abbrev pub invariant-loop-module : goal.invariant-loop-module
invariant-loop-module l = record {
  waiting : (m : ℕ) → m < length l.fn.waiting → slice_index l.waiting m + occurrences_in m (take l.module-index l.importers) ≡ slice_index l.fn.waiting m;
  states : (m : ℕ) → m < length l.fn.waiting → state_at l.states m ≡ state_after_delivery (state_at l.fn.states m) (slice_index l.waiting m);
}
