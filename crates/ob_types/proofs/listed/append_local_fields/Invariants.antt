use Rattle.ob_types.specs.FieldLists.{StayListed}
use Rattle.ob_types.proofs.Telling.{RowsTold}
use Rattle.ob_types.proofs.listed.append_local_fields.Given as goal

abbrev pub invariant-loop-index : goal.invariant-loop-index
invariant-loop-index l = record { stay : StayListed l.fn.fields.items l.fields.items; listed : RowsTold l.view l.rows l.index l.fields.items }
