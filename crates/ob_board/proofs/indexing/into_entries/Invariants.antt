use Rattle.std.proofs.Common.{◌≡◌, ◌++◌, map}
use Rattle.ob_board.specs.Entries.{entry_model}
use Rattle.ob_board.proofs.indexing.into_entries.Given as goal

abbrev pub invariant-loop-built : goal.invariant-loop-built
invariant-loop-built g l = map entry_model l.entries.items ++ l.built-iterator.rest.items ≡ l.fn.all.items
