use Rattle.std.proofs.Common.{◌≡◌, ◌++◌, map, Some}
use Rattle.board_workers.proofs.single_thread.unwrap_entries.Given as goal

abbrev pub invariant-loop-entry : goal.invariant-loop-entry
invariant-loop-entry g l = map Some l.entries.items ++ l.entry-iterator.rest.items ≡ l.fn.gathered.items
