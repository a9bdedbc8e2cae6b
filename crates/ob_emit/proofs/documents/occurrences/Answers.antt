-- A token that denotes a name of an external module is an identifier. Each iteration adds the next reference.
use Rattle.std.proofs.Common.{ap, map}
use Rattle.scip_index.specs.Plain.{occurrence_model}
use Rattle.ob_emit.specs.Documents.{occurrence}
use Rattle.ob_emit.proofs.Rows.{external_named, no_row, row_more, rows_done}
use Rattle.ob_emit.proofs.documents.occurrences.Goals as goal
use Rattle.ob_emit.proofs.documents.occurrences.Goals.{in-Some+in_ok-push, in_default}

pub occurrence_of-requires-clause-external : goal.occurrence_of-requires-clause-external
occurrence_of-requires-clause-external c = external_named c.args.view.now c.args.refs.now c.requires.of_names c.loop-reference.reference-index _ c.loop-reference-test.true

pub loop-reference-preserved : goal.loop-reference-preserved
loop-reference-preserved c = λ p made.
    let w = c.args.view.now in
    let i = c.loop-reference.reference-index in
    elim c.match-branch-4.branch [
      | in-Some+in_ok-push w' ↦
          rw (w'.found-is, w'.in_ok-push.ensures.items)
          (row_more occurrence_model (occurrence w p) c.args.refs.now i _ c.loop-reference.found.items c.loop-reference-test.true (c.loop-reference.invariant p made) w'.in-Some.occurrence c.in_ok-occurrence.field-0
          (c.in_ok-occurrence.ensures p made) w'.in-Some.is)
      | in_default w' ↦
          rw w'.found-is
          (no_row occurrence_model (occurrence w p) c.args.refs.now i _ c.loop-reference.found.items c.loop-reference-test.true (c.loop-reference.invariant p made) c.in_ok-occurrence.field-0
          (c.in_ok-occurrence.ensures p made) w'.in_default.is)
    ]

pub returns : goal.returns
returns c = λ p made. rows_done occurrence_model (occurrence c.args.view.now p) c.args.refs.now c.loop-reference.reference-index c.loop-reference.found.items c.loop-reference-test.false (c.loop-reference.invariant p made)

pub loop-reference-init : goal.loop-reference-init
loop-reference-init c = λ p made. ap (map occurrence_model) c.in_ok-found.ensures.items
