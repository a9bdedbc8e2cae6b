-- A token that denotes a name of an external module is an identifier. Each iteration adds the next reference.
use Rattle.std.proofs.Common.{◌∙◌}
use Rattle.scip_index.specs.Written.{written_occurrence}
use Rattle.ob_emit.specs.Documents.{occurrence}
use Rattle.ob_emit.proofs.Rows.{external_named}
use Rattle.ob_emit.proofs.RowsWritten.{put_row, rows_put}
use Rattle.ob_emit.proofs.records.append_occurrences.Goals as goal

pub append_occurrence-requires-clause-external : goal.append_occurrence-requires-clause-external
append_occurrence-requires-clause-external c = external_named c.args.view.now c.args.refs.now c.requires.of_names c.loop-reference.reference-index _ c.loop-reference-test.true

pub loop-reference-preserved : goal.loop-reference-preserved
loop-reference-preserved c = λ p made.
    let before = c.loop-reference.invariant p made in (
      c.in_ok-append_occurrence.ensures.texts p before.0,
      put_row 2 written_occurrence (occurrence c.args.view.now p) c.args.refs.now c.loop-reference.reference-index _ _ _ _ c.loop-reference-test.true before.1 (c.count_record.ensures ∙ c.in_ok-append_occurrence.ensures.bytes p before.0),
    )

pub returns-clause-bytes : goal.returns-clause-bytes
returns-clause-bytes c = λ p made. rows_put 2 written_occurrence (occurrence c.args.view.now p) c.args.refs.now c.loop-reference.reference-index _ _ c.loop-reference-test.false (c.loop-reference.invariant p made).1

pub returns-clause-texts : goal.returns-clause-texts
returns-clause-texts c = λ p made. (c.loop-reference.invariant p made).0
