use Rattle.std.proofs.Common.{◌<◌, length, sym, ap, ◌∙◌, arith}
use Rattle.ob_scan.specs.declared.kind.Kind.TheVariants as kinds
use Rattle.ob_tree.specs.TreeEvents.{times}
use Rattle.ob_grammar.specs.Combinators.{many, accept_at, expect_at}
use Rattle.ob_grammar.specs.ParsesAs.{remaining, skipped}
use Rattle.ob_grammar.proofs.Loops.{is_done}
use Rattle.ob_grammar.proofs.LoopEnds.{ends, stopped}
use Rattle.ob_grammar.proofs.Arrays.{array_of, array_advances, fewer, one_more, few_ahead}
use Rattle.ob_parse.proofs.parameters.open_arrays.Goals as goal

pub more-smaller : goal.more-smaller
more-smaller c = fewer (remaining c.args.tokens.now c.more.here) (remaining c.args.tokens.now c.in-Some.after) (remaining c.args.tokens.now c.in_ok-here.here) (sym c.in-Some.ensures.read) c.in_ok-here.ensures.read

pub overflow_add-count : goal.overflow_add-count
overflow_add-count c =
    let less : length (remaining c.args.tokens.now c.in_ok-here.here) < length (remaining c.args.tokens.now c.more.here) =
    fewer (remaining c.args.tokens.now c.more.here) (remaining c.args.tokens.now c.in-Some.after) (remaining c.args.tokens.now c.in_ok-here.here) (sym c.in-Some.ensures.read) c.in_ok-here.ensures.read in
    omega (arith, less, c.more.invariant.1, few_ahead c.args.tokens.now c.args.input)

pub more-preserved : goal.more-preserved
more-preserved c =
    let less : length (remaining c.args.tokens.now c.in_ok-here.here) < length (remaining c.args.tokens.now c.more.here) =
    fewer (remaining c.args.tokens.now c.more.here) (remaining c.args.tokens.now c.in-Some.after) (remaining c.args.tokens.now c.in_ok-here.here) (sym c.in-Some.ensures.read) c.in_ok-here.ensures.read in (
      one_more c.more.count (remaining c.args.tokens.now c.more.here) (remaining c.args.tokens.now c.in-Some.after) (remaining c.args.tokens.now c.in_ok-here.here) _ (sym c.in-Some.ensures.read) c.in_ok-here.ensures.read c.more.invariant.0,
      omega (arith, less, c.more.invariant.1),
    )

pub returns-in_err-here : goal.returns-in_err-here
returns-in_err-here c =
    stopped _ _ _ _ _ c.from_residual.ensures.1 (ends (accept_at kinds.Array) (expect_at kinds.Of) array_advances c.args.tokens.now c.in_err-here.field-0.0 (times c.more.count array_of) (remaining c.args.tokens.now c.more.here) _
    (many (accept_at kinds.Array) (expect_at kinds.Of) (remaining c.args.tokens.now c.args.input)) (sym c.in-Some.ensures.read) c.in_err-here.ensures.read c.more.invariant.0)

pub returns : goal.returns
returns c = is_done (accept_at kinds.Array) (expect_at kinds.Of) array_advances (times c.more.count array_of) (remaining c.args.tokens.now c.more.here)
    (many (accept_at kinds.Array) (expect_at kinds.Of) (remaining c.args.tokens.now c.args.input))
    (sym (sym (ap (skipped c.args.tokens.now kinds.Array) c.in_default.is) ∙ c.accept.ensures.read)) c.more.invariant.0
