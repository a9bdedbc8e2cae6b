-- Lines and columns are at most the offsets.
use Rattle.std.proofs.Common.{◌≤◌, ◌^◌, length}
use Rattle.ob_scan.proofs.InText.{end_in_text, start_in_text}
use Rattle.ob_emit.proofs.Positions.{column_fits, line_fits}
use Rattle.ob_emit.proofs.ranges.span_of.Goals as goal

pub range_between-requires-clause-line : goal.range_between-requires-clause-line
range_between-requires-clause-line c =
    let w = c.args.view.now in
    let within : c.token_offsets-start.result.0 ≤ length w.bytes = rw c.token_offsets-start.ensures.start (start_in_text w.bytes w.tokens c.args.first c.requires.in_text) in
    line_fits w.bytes c.token_offsets-start.result.0 (2 ^ 31) c.position_at-from.result.line (c.position_at-from.ensures.line w.bytes c.requires.lined within) within c.requires.short

pub range_between-requires-clause-column : goal.range_between-requires-clause-column
range_between-requires-clause-column c =
    let w = c.args.view.now in
    let within : c.token_offsets-start.result.0 ≤ length w.bytes = rw c.token_offsets-start.ensures.start (start_in_text w.bytes w.tokens c.args.first c.requires.in_text) in
    column_fits w.bytes c.token_offsets-start.result.0 (2 ^ 31) c.position_at-from.result.column (c.position_at-from.ensures.column w.bytes c.requires.lined within) within c.requires.short

pub range_between-requires-clause-last : goal.range_between-requires-clause-last
range_between-requires-clause-last c =
    let w = c.args.view.now in
    let within : c.token_offsets-end.result.1 ≤ length w.bytes = rw c.token_offsets-end.ensures.end (end_in_text w.bytes w.tokens c.args.last c.requires.in_text) in
    line_fits w.bytes c.token_offsets-end.result.1 (2 ^ 31) c.position_at-to.result.line (c.position_at-to.ensures.line w.bytes c.requires.lined within) within c.requires.short

pub range_between-requires-clause-end : goal.range_between-requires-clause-end
range_between-requires-clause-end c =
    let w = c.args.view.now in
    let within : c.token_offsets-end.result.1 ≤ length w.bytes = rw c.token_offsets-end.ensures.end (end_in_text w.bytes w.tokens c.args.last c.requires.in_text) in
    column_fits w.bytes c.token_offsets-end.result.1 (2 ^ 31) c.position_at-to.result.column (c.position_at-to.ensures.column w.bytes c.requires.lined within) within c.requires.short
