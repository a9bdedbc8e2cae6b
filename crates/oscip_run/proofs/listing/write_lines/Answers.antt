use Rattle.std.proofs.Common.{[], arith, rules, subst, List}
use Rattle.std.specs.String.{string_bytes}
use Rattle.std.proofs.lemmas.List.{take_all}
use Rattle.std.proofs.lemmas.Result.{err_from_is_err_and}
use Rattle.byte_sink.specs.Pieces.{WritesAllBut}
use Rattle.byte_sink.proofs.Joining.{front_joined, joined, lines, lines_around, lines_more, puts_then}
use Rattle.oscip_run.specs.ModuleRuns.{entry_line, entry_of}
use Rattle.oscip_run.specs.declared.listing.ListedModule.{ListedModule}
use Rattle.texts.specs.Places.{style_of}
use Rattle.oscip_run.proofs.listing.write_lines.Goals as goal

pub returns-in_err-write_line-clause-writes : goal.returns-in_err-write_line-clause-writes
returns-in_err-write_line-clause-writes g c =
    let p = err_from_is_err_and c.from_residual.result c.from_residual.ensures.1 in
    let around = lines_around entry_of (entry_line (style_of c.args.style)) c.args.modules.now c.loop-listed.listed-index _ c.loop-listed-test.true in
    rw p.1 (front_joined _ _ _ [] _ _ _ _ _ around c.loop-listed.invariant.gathered c.in_err-write_line.ensures.error_prefix)

pub loop-listed-preserved : goal.loop-listed-preserved
loop-listed-preserved g c =
    let more = lines_more entry_of (entry_line (style_of c.args.style)) c.args.modules.now c.loop-listed.listed-index _ c.loop-listed-test.true in
    record {
      gathered = joined _ _ _ [] _ _ _ _ _ more c.loop-listed.invariant.gathered c.in_ok-write_line.ensures.gathered;
      failures = search rules;
    }

pub returns-clause-writes : goal.returns-clause-writes
returns-clause-writes g c =
    let whole = take_all c.loop-listed.listed-index c.args.modules.now (omega arith) in
    let all = subst (λ (modules : List ListedModule). WritesAllBut (g.S.Sink.taken c.args.sink.now) (g.S.Sink.taken c.loop-listed.sink) (lines entry_of (entry_line (style_of c.args.style)) modules) (string_bytes c.loop-listed.text)) whole c.loop-listed.invariant.gathered in
    puts_then _ _ _ _ (string_bytes c.loop-listed.text) c.write_fully.result all (rw c.as_bytes.ensures.value at c.write_fully.ensures.writes)
