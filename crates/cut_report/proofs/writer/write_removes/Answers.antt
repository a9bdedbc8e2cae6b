use Rattle.std.proofs.Common.{rules}
use Rattle.std.proofs.lemmas.List.Elements.{Contains-get_or}
use Rattle.std.proofs.lemmas.Result.{err_from_is_err_and}
use Rattle.cut_report.specs.ReportLine.{removes, report_line}
use Rattle.texts.specs.Fields.{ended}
use Rattle.byte_sink.proofs.Joining.{front_joined, joined, lines_around, lines_more}
use Rattle.cut_report.proofs.writer.write_removes.Goals as goal

pub name-from-requires : goal.name-from-requires
name-from-requires g c = (c.requires _ (Contains-get_or _ _ _ c.loop-import-test.true)).0

pub name-to-requires : goal.name-to-requires
name-to-requires g c = (c.requires _ (Contains-get_or _ _ _ c.loop-import-test.true)).1

pub returns-in_err-write_line-clause-error_prefix : goal.returns-in_err-write_line-clause-error_prefix
returns-in_err-write_line-clause-error_prefix g c =
    let p = err_from_is_err_and c.from_residual.result c.from_residual.ensures.1 in
    let around = lines_around (removes c.args.net.now) (λ line. ended (report_line line)) c.args.imports.now c.loop-import.import-index _ c.loop-import-test.true in
    rw p.1 (front_joined _ _ _ _ _ _ _ _ _ around c.loop-import.invariant.gathered (rw (c.name-from.ensures, c.name-to.ensures) at c.in_err-write_line.ensures.error_prefix))

pub loop-import-preserved : goal.loop-import-preserved
loop-import-preserved g c =
    let more = lines_more (removes c.args.net.now) (λ line. ended (report_line line)) c.args.imports.now c.loop-import.import-index _ c.loop-import-test.true in
    record {
      gathered = joined _ _ _ _ _ _ _ _ _ more c.loop-import.invariant.gathered (rw (c.name-from.ensures, c.name-to.ensures) at c.in_ok-write_line.ensures.gathered);
      failures = search rules;
    }
