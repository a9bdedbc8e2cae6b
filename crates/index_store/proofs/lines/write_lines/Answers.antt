use Rattle.std.proofs.Common.{◌++◌, ap, sym, ◌∙◌, arith, rules}
use Rattle.std.proofs.KnownBytes.{Appends-trans}
use Rattle.std.proofs.lemmas.List.{take_all}
use Rattle.std.proofs.lemmas.Result.{err_from_is_err_and}
use Rattle.texts.specs.Places.{style_of}
use Rattle.index_store.proofs.LineLemmas.{all_lines, front_put, front_then, lines_front, lines_more, puts_then}
use Rattle.index_store.proofs.lines.write_lines.Goals as goal

pub returns-in_err-flush_if_full-clause-writes : goal.returns-in_err-flush_if_full-clause-writes
returns-in_err-flush_if_full-clause-writes g c =
    let p = err_from_is_err_and c.from_residual.result c.from_residual.ensures.1 in
    let so_far = c.loop-location.invariant.taken in
    rw p.1 (front_then _ _ _ _ _ so_far.0 _ _ (lines_front (style_of c.args.style) c.args.locations.now c.loop-location.location-index) so_far.1 so_far.2 c.in_err-flush_if_full.ensures.error_prefix)

pub returns-in_err-append_line-clause-writes : goal.returns-in_err-append_line-clause-writes
returns-in_err-append_line-clause-writes g c =
    let p = err_from_is_err_and c.from_residual-in_err-append_line.result c.from_residual-in_err-append_line.ensures.1 in
    let so_far = c.loop-location.invariant.taken in
    let moved = c.in_ok-flush_if_full.ensures.moved in
    rw p.1 (front_put _ _ _ _ _ so_far.0 _ moved.0 _ _ (lines_front (style_of c.args.style) c.args.locations.now c.loop-location.location-index) so_far.1 moved.1 so_far.2 moved.2)

pub loop-location-preserved : goal.loop-location-preserved
loop-location-preserved g c =
    let so_far = c.loop-location.invariant.taken in
    let moved = c.in_ok-flush_if_full.ensures.moved in
    record {
      taken = (
        so_far.0 ++ moved.0,
        lines_more (style_of c.args.style) c.args.locations.now c.loop-location.location-index _ so_far.0 _ moved.0 _ _ c.loop-location-test.true so_far.1 moved.1 (rw c.loop-location.invariant.style at c.in_ok-append_line.ensures.line),
        Appends-trans _ _ _ so_far.0 moved.0 so_far.2 moved.2,
      );
      style = c.in_ok-append_line.ensures.style ∙ c.loop-location.invariant.style;
      failures = search rules;
    }

pub returns-clause-writes : goal.returns-clause-writes
returns-clause-writes g c =
    let so_far = c.loop-location.invariant.taken in
    let whole = take_all c.loop-location.location-index c.args.locations.now (omega arith) in
    puts_then _ _ _ _ so_far.0 _ _ (ap (all_lines (style_of c.args.style)) (sym whole) ∙ so_far.1) so_far.2 (rw c.as_bytes.ensures.value at c.write_fully.ensures.writes)
