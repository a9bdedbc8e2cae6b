use Rattle.std.proofs.Common.{sym, ◌∙◌, arith, refl}
use Rattle.ob_scan.specs.declared.kind.Kind.TheVariants as kinds
use Rattle.ob_tree.specs.Declaring.{procedure_events, declarations_events}
use Rattle.ob_grammar.specs.Lookahead.{is_word}
use Rattle.ob_grammar.specs.Combinators.{limit_at}
use Rattle.ob_grammar.specs.ReadNames.{identdef_after}
use Rattle.ob_grammar.specs.ReadModules.{procedure_at, declarations_with, procedure_named, procedure_with, procedures_with}
use Rattle.ob_grammar.specs.ReadExpressions.{expr_at}
use Rattle.ob_grammar.specs.ReadTypes.{type_at}
use Rattle.ob_grammar.proofs.Sound.{expr_at_sound, type_at_sound}
use Rattle.ob_grammar.proofs.Loops.{has_begun, has_not_begun, const_shortens, type_decl_shortens, variable_shortens}
use Rattle.ob_tree.proofs.DeclarationLayers.{declaring_made, declarations_made}
use Rattle.ob_tree.proofs.NameLayers.{names_made}
use Rattle.ob_grammar.proofs.Stars.{star_read}
use Rattle.ob_parse.proofs.Boxes.{gives_boxed}
use Rattle.ob_grammar.proofs.Repetitions.{procedures}
use Rattle.ob_grammar.proofs.LoopEnds.{stopped}
use Rattle.ob_grammar.proofs.Turns.{turn_shorter, turn_kept, turn_failed, turns_done}
use Rattle.ob_parse.proofs.declarations.+declarations.Goals as goal

pub procedures-more-smaller : goal.procedures-more-smaller
procedures-more-smaller t c =
    turn_shorter c.args.tokens.now (procedures c.args.depth) c.procedure_with_semicolon.result (λ b. b.value) c.more.here c.more.here _ _ _ (has_begun (is_word kinds.Procedure) _ (sym c.next_is.ensures ∙ c.more-test.true)) c.procedure_with_semicolon.ensures c.in_ok-here.ensures

pub procedures-more-preserved : goal.procedures-more-preserved
procedures-more-preserved t c =
    turn_kept c.args.tokens.now (procedures c.args.depth) c.procedure_with_semicolon.result (λ b. b.value) c.more.here c.more.here _ _ _ _ (has_begun (is_word kinds.Procedure) _ (sym c.next_is.ensures ∙ c.more-test.true)) c.procedure_with_semicolon.ensures c.in_ok-here.ensures c.more.invariant

pub procedures-returns-in_err-here : goal.procedures-returns-in_err-here
procedures-returns-in_err-here t c =
    stopped _ _ _ _ _ c.from_residual.ensures.1 (turn_failed c.args.tokens.now (procedures c.args.depth) c.procedure_with_semicolon.result (λ b. b.value) c.more.here c.more.here _ _ c.in_err-here.field-0.0 _ (has_begun (is_word kinds.Procedure) _ (sym c.next_is.ensures ∙ c.more-test.true)) c.procedure_with_semicolon.ensures c.in_err-here.ensures c.more.invariant)

pub procedures-returns : goal.procedures-returns
procedures-returns t c =
    turns_done c.args.tokens.now (procedures c.args.depth) c.more.declared.items c.more.here _ (has_not_begun (is_word kinds.Procedure) _ (sym c.next_is.ensures ∙ c.more-test.false)) c.more.invariant

pub declarations-declaration_section-requires : goal.declarations-declaration_section-requires
declarations-declaration_section-requires t c = const_shortens c.args.depth (expr_at c.args.depth) (expr_at_sound c.args.depth)

pub declarations-declaration_section-requires-2 : goal.declarations-declaration_section-requires-2
declarations-declaration_section-requires-2 t c = type_decl_shortens c.args.depth (type_at c.args.depth) (type_at_sound c.args.depth)

pub declarations-declaration_section-requires-3 : goal.declarations-declaration_section-requires-3
declarations-declaration_section-requires-3 t c = variable_shortens c.args.depth (type_at c.args.depth) (type_at_sound c.args.depth)

pub declarations-returns : goal.declarations-returns
unfolding declarations_with procedures_with
declarations-returns t c = gives_boxed c.args.tokens.now declarations_events _ _ c.box_value.result _ c.box_value.ensures.of c.box_value.ensures.refused (rw (c.in_ok-constants.ensures, c.in_ok-types.ensures, c.in_ok-variables.ensures, c.in_ok-procedures.ensures, declarations_made (record { constants = c.in_ok-constants.constants; types = c.in_ok-types.types; variables = c.in_ok-variables.variables; procedures = c.in_ok-procedures.procedures })) refl)

pub procedure-returns : goal.procedure-returns
unfolding procedure_at limit_at
procedure-returns t c = grind arith

pub procedure-returns-then-depth-eq0 : goal.procedure-returns-then-depth-eq0
unfolding procedure_at limit_at
procedure-returns-then-depth-eq0 t c = grind arith

pub procedure_after_depth_check-returns : goal.procedure_after_depth_check-returns
unfolding procedure_with procedure_named identdef_after
procedure_after_depth_check-returns t c = gives_boxed c.args.tokens.now procedure_events _ _ c.box_value.result _ c.box_value.ensures.of c.box_value.ensures.refused (grind (arith, declaring_made, names_made, star_read))
