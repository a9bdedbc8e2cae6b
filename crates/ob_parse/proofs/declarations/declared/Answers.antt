use Rattle.std.proofs.Common.{sym, ◌∙◌}
use Rattle.ob_grammar.specs.ReadModules.{is_identifier}
use Rattle.ob_grammar.proofs.Loops.{has_begun, has_not_begun}
use Rattle.ob_grammar.proofs.Repetitions.{declarations}
use Rattle.ob_grammar.proofs.LoopEnds.{stopped}
use Rattle.ob_grammar.proofs.Turns.{turn_shorter, turn_kept, turn_failed, turns_done}
use Rattle.ob_parse.proofs.declarations.declared.Goals as goal

pub more-smaller : goal.more-smaller
more-smaller g c =
    turn_shorter c.args.tokens.now (declarations (g.D.Declaration.read c.args.depth) c.requires g.D.Declaration.shown) c.parse_with_semicolon.result (λ x. x) c.more.here c.more.here _ _ _ (has_begun is_identifier _ (sym c.begins_declaration.ensures ∙ c.more-test.true)) c.parse_with_semicolon.ensures c.in_ok-here.ensures

pub more-preserved : goal.more-preserved
more-preserved g c =
    turn_kept c.args.tokens.now (declarations (g.D.Declaration.read c.args.depth) c.requires g.D.Declaration.shown) c.parse_with_semicolon.result (λ x. x) c.more.here c.more.here _ _ _ _ (has_begun is_identifier _ (sym c.begins_declaration.ensures ∙ c.more-test.true)) c.parse_with_semicolon.ensures c.in_ok-here.ensures c.more.invariant

pub returns-in_err-here : goal.returns-in_err-here
returns-in_err-here g c =
    stopped _ _ _ _ _ c.from_residual.ensures.1 (turn_failed c.args.tokens.now (declarations (g.D.Declaration.read c.args.depth) c.requires g.D.Declaration.shown) c.parse_with_semicolon.result (λ x. x) c.more.here c.more.here _ _ c.in_err-here.field-0.0 _ (has_begun is_identifier _ (sym c.begins_declaration.ensures ∙ c.more-test.true)) c.parse_with_semicolon.ensures c.in_err-here.ensures c.more.invariant)

pub returns : goal.returns
returns g c =
    turns_done c.args.tokens.now (declarations (g.D.Declaration.read c.args.depth) c.requires g.D.Declaration.shown) c.more.declared.items c.more.here _ (has_not_begun is_identifier _ (sym c.begins_declaration.ensures ∙ c.more-test.false)) c.more.invariant
