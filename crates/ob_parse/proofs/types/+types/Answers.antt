use Rattle.std.proofs.Common.{sym, ap, ◌∙◌, arith, refl}
use Rattle.ob_scan.specs.declared.kind.Kind.TheVariants as kinds
use Rattle.ob_tree.specs.declared.token.Leaf.TheVariants as leafs
use Rattle.ob_tree.specs.declared.declaration.Record.{roll-Record}
use Rattle.ob_tree.specs.Types.{var_events, fields_events, type_events}
use Rattle.ob_grammar.specs.Combinators.{limit_at, unless}
use Rattle.ob_grammar.specs.ParsesAs.{skipped}
use Rattle.ob_grammar.specs.ReadTypes.{var_with, type_at, fields_with, record_with, type_with}
use Rattle.ob_tree.proofs.TypeLayers.{types_made, array_made, pointer_made, record_of_made, record_made, fields_made, var_made}
use Rattle.ob_parse.proofs.Boxes.{gives_boxed}
use Rattle.ob_grammar.proofs.Somes.{gives_some, not_closed}
use Rattle.ob_grammar.proofs.Repetitions.{field_lists}
use Rattle.ob_grammar.proofs.LoopEnds.{stopped}
use Rattle.ob_grammar.proofs.Turns.{turn_shorter, turn_kept, turn_failed, turns_done}
use Rattle.ob_grammar.specs.ReadExpressions.{expr_at}
use Rattle.ob_grammar.proofs.Lookaheads.{leaf_stands, word_stands, type_seen}
use Rattle.ob_parse.proofs.types.+types.Goals as goal

pub more_field_lists-more-smaller : goal.more_field_lists-more-smaller
more_field_lists-more-smaller t c =
    turn_shorter c.args.tokens.now (field_lists c.args.depth) c.field_list.result (λ b. b.value) c.more.here c.in-Some.after _ _ _ (sym c.in-Some.ensures.read) c.field_list.ensures c.in_ok-here.ensures

pub more_field_lists-more-preserved : goal.more_field_lists-more-preserved
more_field_lists-more-preserved t c =
    turn_kept c.args.tokens.now (field_lists c.args.depth) c.field_list.result (λ b. b.value) c.more.here c.in-Some.after _ _ _ _ (sym c.in-Some.ensures.read) c.field_list.ensures c.in_ok-here.ensures c.more.invariant

pub more_field_lists-returns-in_err-here : goal.more_field_lists-returns-in_err-here
more_field_lists-returns-in_err-here t c =
    stopped _ _ _ _ _ c.from_residual.ensures.1 (turn_failed c.args.tokens.now (field_lists c.args.depth) c.field_list.result (λ b. b.value) c.more.here c.in-Some.after _ _ c.in_err-here.field-0.0 _ (sym c.in-Some.ensures.read) c.field_list.ensures c.in_err-here.ensures c.more.invariant)

pub more_field_lists-returns : goal.more_field_lists-returns
more_field_lists-returns t c =
    turns_done c.args.tokens.now (field_lists c.args.depth) c.more.rest.items c.more.here _ (sym c.accept_field_separator.ensures.read ∙ ap (skipped c.args.tokens.now kinds.Semicolon) c.in_default.is) c.more.invariant

pub array-returns : goal.array-returns
array-returns t c = rw (c.in_ok-lengths.ensures, c.in_ok-rest.ensures.read, c.in_ok-of.ensures, array_made c.in_ok-lengths.lengths c.in_ok-of.of) refl

pub fields-returns : goal.fields-returns
unfolding fields_with
fields-returns t c = gives_boxed c.args.tokens.now fields_events _ _ c.box_value.result _ c.box_value.ensures.of c.box_value.ensures.refused (rw (c.in_ok-first.ensures, c.in_ok-rest.ensures, sym c.skip-closing_semicolon.ensures.read, fields_made c.into_inner.result c.in_ok-rest.rest c.skip-closing_semicolon.result.0, c.into_inner.ensures) refl)

pub pointer-returns : goal.pointer-returns
pointer-returns t c = rw (c.in_ok-rest.ensures.read, c.in_ok-to.ensures, pointer_made c.in_ok-to.to) refl

pub record-returns : goal.record-returns
unfolding record_with
record-returns t c = rw (c.in_ok-base.ensures.read, c.in_ok-fields.ensures, c.in_ok-here.ensures.read, record_of_made (roll-Record (record { base = c.in_ok-base.base; fields = c.in_ok-fields.fields })), record_made c.in_ok-base.base c.in_ok-fields.fields) refl

pub optional_fields-returns : goal.optional_fields-returns
optional_fields-returns t c =
    gives_some c.args.tokens.now c.fields.result (λ l. fields_events l.value) c.wrap_in_some.result (unless kinds.End) _ _ _ c.wrap_in_some.ensures (not_closed kinds.End _ (sym c.next_is.ensures ∙ c.if-next_is.false)) c.fields.ensures

pub optional_fields-returns-then-next_is : goal.optional_fields-returns-then-next_is
unfolding unless
optional_fields-returns-then-next_is t c = grind arith

pub type_expression-returns : goal.type_expression-returns
unfolding type_at limit_at
type_expression-returns t c = gives_boxed c.args.tokens.now type_events _ _ c.box_value.result _ c.box_value.ensures.of c.box_value.ensures.refused (grind arith)

pub type_expression-returns-then-depth-eq0 : goal.type_expression-returns-then-depth-eq0
unfolding type_at limit_at
type_expression-returns-then-depth-eq0 t c = grind arith

pub type_after_depth_check-returns-in-Some-Name-default : goal.type_after_depth_check-returns-in-Some-Name-default
type_after_depth_check-returns-in-Some-Name-default t c = rw (type_seen (expr_at c.args.depth) (type_at c.args.depth) _ _ (leaf_stands c.args.tokens.now _ c.args.input c.in-Some-Name-default.rest _ (leafs.Name c.in-Some-Name-default.head) c.in-Some-Name-default.is c.in-Some-Name-default.field-0-0-is c.next.ensures.read)) c.named_type.ensures

pub type_after_depth_check-returns-in-Some-Word-Array-default : goal.type_after_depth_check-returns-in-Some-Word-Array-default
type_after_depth_check-returns-in-Some-Word-Array-default t c = rw (type_seen (expr_at c.args.depth) (type_at c.args.depth) _ _ (word_stands c.args.tokens.now _ c.args.input c.in-Some-Word-Array-default.rest _ _ kinds.Array c.in-Some-Word-Array-default.is c.in-Some-Word-Array-default.field-0-0-is c.in-Some-Word-Array-default.field-0-0-0-is c.next.ensures.read)) c.array.ensures

pub type_after_depth_check-returns-in-Some-Word-Pointer-default : goal.type_after_depth_check-returns-in-Some-Word-Pointer-default
type_after_depth_check-returns-in-Some-Word-Pointer-default t c = rw (type_seen (expr_at c.args.depth) (type_at c.args.depth) _ _ (word_stands c.args.tokens.now _ c.args.input c.in-Some-Word-Pointer-default.rest _ _ kinds.Pointer c.in-Some-Word-Pointer-default.is c.in-Some-Word-Pointer-default.field-0-0-is c.in-Some-Word-Pointer-default.field-0-0-0-is c.next.ensures.read)) c.pointer.ensures

pub type_after_depth_check-returns-in-Some-Word-Procedure-default : goal.type_after_depth_check-returns-in-Some-Word-Procedure-default
type_after_depth_check-returns-in-Some-Word-Procedure-default t c = rw (type_seen (expr_at c.args.depth) (type_at c.args.depth) _ _ (word_stands c.args.tokens.now _ c.args.input c.in-Some-Word-Procedure-default.rest _ _ kinds.Procedure c.in-Some-Word-Procedure-default.is c.in-Some-Word-Procedure-default.field-0-0-is c.in-Some-Word-Procedure-default.field-0-0-0-is c.next.ensures.read)) c.procedure.ensures

pub type_after_depth_check-returns-in-Some-Word-Record-default : goal.type_after_depth_check-returns-in-Some-Word-Record-default
type_after_depth_check-returns-in-Some-Word-Record-default t c = rw (type_seen (expr_at c.args.depth) (type_at c.args.depth) _ _ (word_stands c.args.tokens.now _ c.args.input c.in-Some-Word-Record-default.rest _ _ kinds.Record c.in-Some-Word-Record-default.is c.in-Some-Word-Record-default.field-0-0-is c.in-Some-Word-Record-default.field-0-0-0-is c.next.ensures.read)) c.record.ensures

pub type_after_depth_check-returns-in_default : goal.type_after_depth_check-returns-in_default
unfolding type_with
type_after_depth_check-returns-in_default t c = grind (arith, types_made)

pub var_declaration-returns : goal.var_declaration-returns
unfolding var_with
var_declaration-returns t c = gives_boxed c.args.tokens.now var_events _ _ c.box_value.result _ c.box_value.ensures.of c.box_value.ensures.refused (rw (c.in_ok-names.ensures, c.in_ok-here.ensures.read, c.in_ok-type_expr.ensures, var_made c.in_ok-names.names c.into_inner-type_expr.result, c.into_inner-type_expr.ensures) refl)
