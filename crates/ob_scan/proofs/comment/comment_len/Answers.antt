use Rattle.std.proofs.Common.{Some, sym, ap, ◌∙◌, arith}
use Rattle.ob_scan.proofs.CommentBrackets.{opens_on, closes_on, passes_on}
use Rattle.ob_scan.proofs.comment.comment_len.Goals as goal

pub inside-preserved-in-Opens : goal.inside-preserved-in-Opens
inside-preserved-in-Opens c =
    let on = opens_on c.inside.open c.inside.at c.args.bytes.now _ c.inside.invariant.place.1 c.inside-test.true (sym c.read_bracket.ensures ∙ c.in_ok-read_bracket.was ∙ ap Some c.in-Opens.is) c.inside.invariant.same in
    record { place = (omega arith, on.0); few = omega arith; same = on.1 }

pub inside-preserved-in-Closes : goal.inside-preserved-in-Closes
inside-preserved-in-Closes c =
    let on = closes_on c.inside.open c.inside.at c.args.bytes.now _ c.inside.invariant.place.1 c.inside-test.true (sym c.read_bracket.ensures ∙ c.in_ok-read_bracket.was ∙ ap Some c.in-Closes.is) c.inside.invariant.same in
    record { place = (omega arith, on.0); few = omega arith; same = on.1 }

pub inside-preserved : goal.inside-preserved
inside-preserved c =
    let on = passes_on c.inside.open c.inside.at c.args.bytes.now _ c.inside.invariant.place.1 c.inside-test.true (sym c.read_bracket.ensures ∙ c.in_ok-read_bracket.was ∙ ap Some c.in-Neither.is) c.inside.invariant.same in
    record { place = (omega arith, on.0); few = omega arith; same = on.1 }
