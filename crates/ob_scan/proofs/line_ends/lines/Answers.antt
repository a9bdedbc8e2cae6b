use Rattle.std.proofs.Common.{List, ℕ, ◌+◌, ◌++◌, ◌∷◌, [], sym, ap, ◌∙◌, arith}
use Rattle.ob_scan.proofs.LineTables.{is_table, start_more, start_passed, start_same}
use Rattle.ob_scan.proofs.line_ends.lines.Goals as goal
use Rattle.ob_scan.proofs.line_ends.lines.Goals.{then-ends_line+in_ok-push, else-ends_line}

pub ends-init : goal.ends-init
ends-init c = (c.skip_within_line-last.ensures.before, c.in_ok-starts.ensures.items ∙ sym (start_passed c.args.bytes.now 0 _ (omega arith) c.skip_within_line-last.ensures.passed))

pub ends-preserved : goal.ends-preserved
ends-preserved c =
    let bytes = c.args.bytes.now in
    let next = c.skip_within_line-last-in-ends.ensures in
    let more = sym (start_passed bytes (c.ends.last + 1) _ next.lower next.passed) in (
      next.before,
      elim c.if-ends_line.branch [
        | then-ends_line+in_ok-push w ↦
            rw w.starts-is (w.in_ok-push.ensures.items ∙ (ap (λ (xs : List ℕ). xs ++ (c.ends.last + 1) ∷ []) c.ends.invariant.1 ∙ (sym (start_more bytes c.ends.last (sym c.ends_line.ensures ∙ w.if-ends_line.true)) ∙ more)))
        | else-ends_line w ↦ rw w.starts-is (c.ends.invariant.1 ∙ (sym (start_same bytes c.ends.last (sym c.ends_line.ensures ∙ w.if-ends_line.false)) ∙ more))
      ],
    )

pub from_starts-requires : goal.from_starts-requires
from_starts-requires c = rw c.ends.invariant.1 (is_table c.args.bytes.now c.ends.last (omega (arith, c.ends.invariant.0, c.min-end.ensures)))
