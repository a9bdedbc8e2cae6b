use Rattle.std.proofs.Common.{length, rules}
use Rattle.std.proofs.lemmas.Result.{err_from_is_err_and}
use Rattle.std.specs.String.{string_bytes}
use Rattle.byte_sink.proofs.Joining.{front_joined, joined}
use Rattle.cut_part.specs.Subnetworks.{are_ends_in}
use Rattle.cut_part.proofs.Adding.{from_in, to_in}
use Rattle.residual_graph.specs.Graphs.{is_flagged}
use Rattle.cut_dot.specs.Texts.{line_of_import}
use Rattle.cut_dot.proofs.Passing.{one_around, one_taken}
use Rattle.cut_dot.proofs.text.write_imports.Goals as goal

pub write_internal_import-requires-clause-from : goal.write_internal_import-requires-clause-from
write_internal_import-requires-clause-from g c = from_in c.args.imports.now (length c.args.net.now.names) c.loop-import.import-index c.requires.imports c.loop-import-test.true

pub write_internal_import-requires-clause-to : goal.write_internal_import-requires-clause-to
write_internal_import-requires-clause-to g c = to_in c.args.imports.now (length c.args.net.now.names) c.loop-import.import-index c.requires.imports c.loop-import-test.true

pub returns-in_err-write_internal_import-clause-error_prefix : goal.returns-in_err-write_internal_import-clause-error_prefix
returns-in_err-write_internal_import-clause-error_prefix g c =
    let p = err_from_is_err_and c.from_residual.result c.from_residual.ensures.1 in
    let line = line_of_import c.args.net.now c.args.removed.now c.args.flow.now in
    let around = one_around line (are_ends_in (is_flagged c.args.marks.now)) c.args.imports.now c.loop-import.import-index _ c.loop-import-test.true in
    rw p.1 (front_joined _ _ _ (string_bytes c.args.text.now) _ _ (string_bytes c.loop-import.text) _ _ around c.loop-import.invariant.gathered c.in_err-write_internal_import.ensures.error_prefix)

pub loop-import-preserved : goal.loop-import-preserved
loop-import-preserved g c =
    let line = line_of_import c.args.net.now c.args.removed.now c.args.flow.now in
    let more = one_taken line (are_ends_in (is_flagged c.args.marks.now)) c.args.imports.now c.loop-import.import-index _ c.loop-import-test.true in
    record {
      gathered = joined _ _ _ (string_bytes c.args.text.now) _ _ (string_bytes c.loop-import.text) (string_bytes c.write_internal_import.new.text) _ more c.loop-import.invariant.gathered c.in_ok-write_internal_import.ensures.gathered;
      failures = search rules;
    }
