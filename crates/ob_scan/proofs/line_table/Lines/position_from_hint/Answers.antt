-- The line separates the lines that begin up to the offset from those that begin after it.
use Rattle.std.proofs.Common.{◌∙◌, arith}
use Rattle.ob_scan.specs.Position.{IsLineTable}
use Rattle.ob_scan.proofs.LineHints.{position_is}
use Rattle.ob_scan.proofs.line_table.Lines.position_from_hint.Goals as goal

pub returns : goal.returns
returns c bytes is within =
    let xs = c.starts-starts.result.now in
    let table : IsLineTable xs = rw c.starts-starts.ensures.offsets c.starts-starts.ensures.table in
    position_is xs c.line_by_hint-line.result c.args.offset table c.line_by_hint-line.ensures bytes (omega (arith, c.ranges.offset.fits)) (c.starts-starts.ensures.offsets ∙ is) within
