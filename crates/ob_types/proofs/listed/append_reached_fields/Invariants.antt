use Rattle.std.specs.Arc.{arc_value}
use Rattle.std.proofs.Common.{map}
use Rattle.ob_types.specs.FieldLists.{StayListed}
use Rattle.ob_types.proofs.Telling.{ModulesTold}
use Rattle.ob_types.proofs.listed.append_reached_fields.Given as goal

abbrev pub invariant-loop-at : goal.invariant-loop-at
invariant-loop-at l = record { stay : StayListed l.fn.fields.items l.fields.items; listed : ModulesTold (map arc_value l.reached) l.at l.fields.items }
