use Rattle.std.proofs.Common.{◌≡◌}
use Rattle.module_table.specs.TableStages.{added, PerformsStep}
use Rattle.module_table.specs.Parts.{these_selectors}
use Rattle.table_reader.specs.SelectorSlots.{slots}
use Rattle.table_reader.proofs.slots.reserve_slots.Given as goal

abbrev pub invariant-loop-slot : goal.invariant-loop-slot
invariant-loop-slot l = PerformsStep (added (these_selectors (slots l.head l.slot))) l.initial.builder l.builder × (l.builder.number ≡ l.initial.builder.number)
