-- A token that denotes a name of an external module is an identifier. Each iteration adds the next reference.
use Rattle.scip_index.specs.Written.{written_symbol}
use Rattle.ob_emit.specs.Documents.{declared_symbol_info}
use Rattle.ob_emit.proofs.Rows.{external_named}
use Rattle.ob_emit.proofs.RowsWritten.{put_row, rows_put}
use Rattle.ob_emit.proofs.records.append_symbols.Goals as goal

pub append_symbol-requires-clause-external : goal.append_symbol-requires-clause-external
append_symbol-requires-clause-external c = external_named c.args.view.now c.args.refs.now c.requires.of_names c.loop-reference.reference-index _ c.loop-reference-test.true

pub loop-reference-preserved : goal.loop-reference-preserved
loop-reference-preserved c = λ p made.
    put_row 3 written_symbol (declared_symbol_info c.args.view.now p) c.args.refs.now c.loop-reference.reference-index _ _ _ _ c.loop-reference-test.true (c.loop-reference.invariant p made) (c.in_ok-append_symbol.ensures p made)

pub returns : goal.returns
returns c = λ p made. rows_put 3 written_symbol (declared_symbol_info c.args.view.now p) c.args.refs.now c.loop-reference.reference-index _ _ c.loop-reference-test.false (c.loop-reference.invariant p made)
