use Rattle.std.proofs.Common.{◌∙◌, drop, take}
use Rattle.std.specs.String.{string_bytes}
use Rattle.std.proofs.lemmas.Result.{err_from_is_err_and}
use Rattle.byte_sink.proofs.Joining.{lines, lines_split, some_front}
use Rattle.cut_rules.specs.Verdicts.{stale_line, stale_of}
use Rattle.cut_rules.proofs.Writing.{on_ok, stale_front, stale_next}
use Rattle.cut_rules.proofs.verdict.RuleChecker.write_stale.Goals as goal

pub returns-then-is_err-clause-prefix : goal.returns-then-is_err-clause-prefix
returns-then-is_err-clause-prefix g c =
    let list = c.args.self.now.rules.now.stale.items in
    let k = c.loop-stale.stale-index in
    some_front _ _ (string_bytes c.args.lines.now.text) (lines stale_of stale_line (take k list)) (string_bytes c.loop-stale.lines.text) (lines stale_of stale_line (drop k list)) (lines stale_of stale_line list) (lines_split stale_of stale_line list k) c.loop-stale.invariant.written

pub returns-in_err-flush_if_full-clause-prefix : goal.returns-in_err-flush_if_full-clause-prefix
returns-in_err-flush_if_full-clause-prefix g c =
    let p = err_from_is_err_and c.from_residual.result c.from_residual.ensures.1 in
    let added = on_ok c.append_stale.result c.if-is_err.ensures.value c.append_stale.ensures in
    rw p.1 (stale_front c.args.self.now.rules.now.stale.items c.as_slice-stale-items.result.now c.as_slice-stale-items.ensures.value c.loop-stale.stale-index _ c.loop-stale-test.true (string_bytes c.args.lines.now.text) (string_bytes c.loop-stale.lines.text) _ added _ _ _
    c.loop-stale.invariant.written c.in_err-flush_if_full.ensures.error_prefix)

pub loop-stale-preserved : goal.loop-stale-preserved
loop-stale-preserved g c =
    let added = on_ok c.append_stale.result c.if-is_err.ensures.value c.append_stale.ensures in
    record {
      written = stale_next c.args.self.now.rules.now.stale.items c.as_slice-stale-items.result.now c.as_slice-stale-items.ensures.value c.loop-stale.stale-index _ c.loop-stale-test.true (string_bytes c.args.lines.now.text) (string_bytes c.loop-stale.lines.text) _ added _ _ _
          c.loop-stale.invariant.written _ c.in_ok-flush_if_full.ensures.moved;
      failures = c.in_ok-flush_if_full.ensures.failures ∙ c.loop-stale.invariant.failures;
    }
