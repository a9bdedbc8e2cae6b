use Rattle.std.proofs.Common.{◌++◌, ◌∙◌, [], arith, rules, subst, List}
use Rattle.std.specs.String.{string_bytes}
use Rattle.std.proofs.lemmas.List.{take_all}
use Rattle.std.proofs.lemmas.Result.{err_from_is_err_and}
use Rattle.ob_board.specs.Unresolved.{unresolved_model}
use Rattle.ob_board.specs.declared.unresolved.Unresolved.{Unresolved}
use Rattle.byte_sink.specs.Sinks.{AppendsPrefix}
use Rattle.texts.specs.Places.{style_of}
use Rattle.byte_sink.specs.Pieces.{WritesAllBut}
use Rattle.byte_sink.proofs.Joining.{front_joined, joined, lines, lines_around, lines_more, puts_then}
use Rattle.index_run.specs.IndexRuns.{unresolved_line}
use Rattle.index_run.proofs.indexing.write_lines.Goals as goal

pub returns-in_err-write_line-clause-writes : goal.returns-in_err-write_line-clause-writes
returns-in_err-write_line-clause-writes g c =
    let p = err_from_is_err_and c.from_residual.result c.from_residual.ensures.1 in
    let around = lines_around unresolved_model (unresolved_line (style_of c.args.style)) c.args.rows.now c.loop-row.row-index c.row-item.result c.loop-row-test.true in
    let error_prefix = subst (λ (row : Unresolved). AppendsPrefix (g.S.Sink.taken c.loop-row.sink) (g.S.Sink.taken c.write_line.new.sink) (string_bytes c.loop-row.text ++ unresolved_line (style_of c.args.style) (unresolved_model row))) c.row-item.is (rw c.loop-row.invariant.style at c.in_err-write_line.ensures.error_prefix) in
    rw p.1 (front_joined _ _ _ [] _ _ _ _ _ around c.loop-row.invariant.gathered error_prefix)

pub loop-row-preserved : goal.loop-row-preserved
loop-row-preserved g c =
    let more = lines_more unresolved_model (unresolved_line (style_of c.args.style)) c.args.rows.now c.loop-row.row-index c.row-item.result c.loop-row-test.true in
    let gathered = subst (λ (row : Unresolved). WritesAllBut (g.S.Sink.taken c.loop-row.sink) (g.S.Sink.taken c.write_line.new.sink) (string_bytes c.loop-row.text ++ unresolved_line (style_of c.args.style) (unresolved_model row)) (string_bytes c.write_line.new.text)) c.row-item.is (rw c.loop-row.invariant.style at c.in_ok-write_line.ensures.gathered) in
    record {
      gathered = joined _ _ _ [] _ _ _ _ _ more c.loop-row.invariant.gathered gathered;
      style = c.in_ok-write_line.ensures.style ∙ c.loop-row.invariant.style;
      failures = search rules;
    }

pub returns-clause-writes : goal.returns-clause-writes
returns-clause-writes g c =
    let whole = take_all c.loop-row.row-index c.args.rows.now (omega arith) in
    let all = subst (λ (rows : List Unresolved). WritesAllBut (g.S.Sink.taken c.args.sink.now) (g.S.Sink.taken c.loop-row.sink) (lines unresolved_model (unresolved_line (style_of c.args.style)) rows) (string_bytes c.loop-row.text)) whole c.loop-row.invariant.gathered in
    puts_then _ _ _ _ (string_bytes c.loop-row.text) c.write_fully.result all (rw c.as_bytes.ensures.value at c.write_fully.ensures.writes)
