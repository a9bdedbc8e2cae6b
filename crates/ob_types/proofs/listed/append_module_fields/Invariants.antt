use Rattle.ob_types.specs.FieldLists.{StayListed}
use Rattle.ob_types.proofs.Telling.{DeclarationsTold}
use Rattle.ob_types.proofs.listed.append_module_fields.Given as goal

abbrev pub invariant-loop-index : goal.invariant-loop-index
invariant-loop-index l = record { stay : StayListed l.fn.fields.items l.fields.items; listed : DeclarationsTold l.reached l.module l.index l.fields.items }
