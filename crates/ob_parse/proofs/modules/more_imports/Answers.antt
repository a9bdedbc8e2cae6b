use Rattle.std.proofs.Common.{sym, ap, ◌∙◌}
use Rattle.ob_scan.specs.declared.kind.Kind.TheVariants as kinds
use Rattle.ob_grammar.specs.ParsesAs.{skipped}
use Rattle.ob_grammar.proofs.Repetitions.{imports}
use Rattle.ob_grammar.proofs.LoopEnds.{stopped}
use Rattle.ob_grammar.proofs.Turns.{turn_shorter, turn_kept, turn_failed, turns_done}
use Rattle.ob_parse.proofs.modules.more_imports.Goals as goal

pub more-smaller : goal.more-smaller
more-smaller c =
    turn_shorter c.args.tokens.now imports c.import.result (λ x. x) c.more.here c.in-Some.after _ _ _ (sym c.in-Some.ensures.read) c.import.ensures.read c.in_ok-here.ensures

pub more-preserved : goal.more-preserved
more-preserved c =
    turn_kept c.args.tokens.now imports c.import.result (λ x. x) c.more.here c.in-Some.after _ _ _ _ (sym c.in-Some.ensures.read) c.import.ensures.read c.in_ok-here.ensures c.more.invariant

pub returns-in_err-here : goal.returns-in_err-here
returns-in_err-here c =
    stopped _ _ _ _ _ c.from_residual.ensures.1 (turn_failed c.args.tokens.now imports c.import.result (λ x. x) c.more.here c.in-Some.after _ _ c.in_err-here.field-0.0 _ (sym c.in-Some.ensures.read) c.import.ensures.read c.in_err-here.ensures c.more.invariant)

pub returns : goal.returns
returns c =
    turns_done c.args.tokens.now imports c.more.rest.items c.more.here _ (sym c.accept.ensures.read ∙ ap (skipped c.args.tokens.now kinds.Comma) c.in_default.is) c.more.invariant
