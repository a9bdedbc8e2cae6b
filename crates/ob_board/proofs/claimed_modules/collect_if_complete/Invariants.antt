use Rattle.std.proofs.Common.{◌≡◌, ◌++◌, map, Some}
use Rattle.ob_board.specs.Entries.{entry_model}
use Rattle.ob_board.specs.declared.entry.Entry.{Entry}
use Rattle.ob_board.proofs.claimed_modules.collect_if_complete.Given as goal

abbrev pub invariant-loop-built : goal.invariant-loop-built
invariant-loop-built g l = map (λ (e : Entry). Some (entry_model e)) l.entries.items ++ l.built-iterator.rest.items ≡ l.fn.gathered.items
