-- Lines and columns are at most the offsets.
use Rattle.std.proofs.Common.{◌≤◌, ◌^◌, length}
use Rattle.ob_scan.proofs.InText.{end_in_text, start_in_text}
use Rattle.ob_emit.proofs.Positions.{column_fits, line_fits}
use Rattle.ob_emit.proofs.locations.span_of.Goals as goal

pub returns-clause-fits : goal.returns-clause-fits
returns-clause-fits c =
    let w = c.args.view.now in
    let s = c.token_offsets-start.result.0 in
    let e = c.token_offsets-end.result.1 in
    let starts : s ≤ length w.bytes = rw c.token_offsets-start.ensures.start (start_in_text w.bytes w.tokens c.args.first c.requires.in_text) in
    let ends : e ≤ length w.bytes = rw c.token_offsets-end.ensures.end (end_in_text w.bytes w.tokens c.args.last c.requires.in_text) in
    record {
      line = line_fits w.bytes s (2 ^ 31) c.position_by_hint-from.result.line (c.position_by_hint-from.ensures.line w.bytes c.requires.lined starts) starts c.requires.short;
      column = column_fits w.bytes s (2 ^ 31) c.position_by_hint-from.result.column (c.position_by_hint-from.ensures.column w.bytes c.requires.lined starts) starts c.requires.short;
      last = line_fits w.bytes e (2 ^ 31) c.position_by_hint-to.result.line (c.position_by_hint-to.ensures.line w.bytes c.requires.lined ends) ends c.requires.short;
      end = column_fits w.bytes e (2 ^ 31) c.position_by_hint-to.result.column (c.position_by_hint-to.ensures.column w.bytes c.requires.lined ends) ends c.requires.short;
    }
