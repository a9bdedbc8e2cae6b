use Rattle.std.proofs.Common.{sym, ◌∙◌}
use Rattle.ob_scan.proofs.LineStarts.{line_ends, line_goes}
use Rattle.ob_scan.proofs.line_ends.position.Goals as goal
use Rattle.ob_scan.proofs.line_ends.position.Goals.{then-ends_line, else-ends_line}

pub loop-at-preserved : goal.loop-at-preserved
loop-at-preserved c =
    elim c.if-ends_line.branch [
      | then-ends_line w ↦ rw (w.line-is, w.first-is) (line_ends _ _ _ _ c.loop-at.invariant (sym c.ends_line.ensures ∙ w.if-ends_line.true))
      | else-ends_line w ↦ rw (w.line-is, w.first-is) (line_goes _ _ _ _ c.loop-at.invariant (sym c.ends_line.ensures ∙ w.if-ends_line.false))
    ]
