use Rattle.std.proofs.Common.{◌≡◌, take}
use Rattle.ob_interface.specs.Orders.{declaration_entry}
use Rattle.ob_interface.specs.IndexEntries.{entries_from}
use Rattle.ob_interface.proofs.entries.declaration_entries.Given as goal

abbrev pub invariant-loop-i : goal.invariant-loop-i
invariant-loop-i l = l.entries.items ≡ entries_from declaration_entry 0 (take l.i l.rows)
