use Rattle.std.proofs.Common.{◌≡◌, ◌+◌, cond, length, arith, subst, sym}
use Rattle.std.specs.Prelude.{is_some}
use Rattle.cut_net.specs.Lines.{IsAscending}
use Rattle.cut_check.proofs.Matching.{matching_more, matching_end, Matching}
use Rattle.cut_check.specs.Reaching.{any}
use Rattle.cut_check.proofs.lines.match_lines.Goals as goal
use Rattle.cut_check.proofs.lines.match_lines.Goals.{then-is_some, else-is_some}

pub loop-i-preserved : goal.loop-i-preserved
loop-i-preserved c =
    let h = c.amount_of_line_at-amount.ensures in
    let some = c.is_some.ensures in
    let e : c.if-is_some.count ≡ c.loop-i.count + cond (is_some c.amount_of_line_at-amount.result) 1 0 =
    elim c.if-is_some.branch [
      | then-is_some w ↦ rw (← some, w.if-is_some.true) w.count-is
      | else-is_some w ↦ rw (← some, w.if-is_some.false) (omega arith)
    ] in
    let ascending = subst IsAscending (sym c.imports-imports.ensures) c.invariants.ensures.network.imports_ascend in
    matching_more c.imports-imports.result.now c.args.lines.now c.loop-i.i-index c.loop-i.count c.loop-i.amounts.items ascending c.loop-i.invariant c.loop-i-test.true
    any _ h _ e _ c.in_ok-push.ensures.items

pub returns : goal.returns
returns c =
    let all : c.loop-i.i-index ≡ length c.imports-imports.result.now = omega arith in
    let done = subst (λ k. Matching c.imports-imports.result.now c.args.lines.now k c.loop-i.count c.loop-i.amounts.items) all c.loop-i.invariant in
    matching_end c.args.net.now c.args.lines.now c.loop-i.count c.loop-i.amounts.items
    (subst (λ v. Matching v c.args.lines.now (length v) c.loop-i.count c.loop-i.amounts.items) c.imports-imports.ensures done)
