use Rattle.std.proofs.Common.{refl, sym, ap, ◌∙◌, arith}
use Rattle.ob_scan.specs.declared.kind.Kind.TheVariants as kinds
use Rattle.ob_tree.specs.declared.token.Leaf.TheVariants as leafs
use Rattle.ob_tree.specs.Expressions.{expr_events, element_events, element_list_events, expr_list_events, sum_events}
use Rattle.ob_grammar.specs.Combinators.{limit_at, name_at, several, unless}
use Rattle.ob_grammar.specs.ParsesAs.{with_remaining, skipped}
use Rattle.ob_grammar.specs.ReadExpressions.{selector_first, element_with, selector_with, expr_at, designator_with, expr_with, factor_with, negated_at, sum_with, term_with}
use Rattle.ob_grammar.proofs.Loops.{has_begun, has_not_begun}
use Rattle.ob_tree.proofs.ExpressionLayers.{expressions_made, sum_made, term_out, element_made, element_list_made, expr_list_made, designator_out, value_made, nil_made, true_made, false_made, set_made, name_made, group_made, index_made, target_made, arguments_made}
use Rattle.ob_parse.proofs.Boxes.{gives_boxed}
use Rattle.ob_grammar.proofs.Somes.{gives_some, not_closed}
use Rattle.ob_grammar.proofs.Repetitions.{expressions, elements, selectors, factor_operations, term_operations}
use Rattle.ob_grammar.proofs.LoopEnds.{stopped}
use Rattle.ob_grammar.proofs.Turns.{turn_shorter, turn_kept, turn_failed, turns_done, operation_shorter, operation_kept, operation_failed, operations_done}
use Rattle.ob_grammar.proofs.Lookaheads.{leaf_stands, word_stands, factor_seen, selector_seen}
use Rattle.ob_parse.proofs.expressions.+expressions.Goals as goal

pub more_factors-more-smaller : goal.more_factors-more-smaller
more_factors-more-smaller t c = operation_shorter c.args.tokens.now (factor_operations c.args.depth) c.in-Some.operator c.more.here c.in-Some.after _ _ c.in-Some.ensures.read c.in_ok-next.ensures

pub more_factors-more-preserved : goal.more_factors-more-preserved
more_factors-more-preserved t c =
    operation_kept c.args.tokens.now (factor_operations c.args.depth) c.in-Some.operator c.more.here c.in-Some.after _ _ c.in_ok-next.next _ _ c.in-Some.ensures.read c.in_ok-next.ensures c.in_ok-push.ensures.items c.more.invariant

pub more_factors-returns-in_err-next : goal.more_factors-returns-in_err-next
more_factors-returns-in_err-next t c =
    stopped _ _ _ _ _ c.from_residual.ensures.1 (operation_failed c.args.tokens.now (factor_operations c.args.depth) c.in-Some.operator c.more.here c.in-Some.after c.more.rest.items c.in_err-next.field-0.0 _ c.in-Some.ensures.read c.in_err-next.ensures c.more.invariant)

pub more_factors-returns : goal.more_factors-returns
more_factors-returns t c =
    operations_done c.args.tokens.now (factor_operations c.args.depth) c.more.rest.items c.more.here _ (sym (ap (with_remaining c.args.tokens.now) c.in_default.is) ∙ c.parse_mul_operator.ensures.read) c.more.invariant

pub more_terms-more-smaller : goal.more_terms-more-smaller
more_terms-more-smaller t c = operation_shorter c.args.tokens.now (term_operations c.args.depth) c.in-Some.operator c.more.here c.in-Some.after _ _ c.in-Some.ensures.read c.in_ok-next.ensures

pub more_terms-more-preserved : goal.more_terms-more-preserved
more_terms-more-preserved t c =
    operation_kept c.args.tokens.now (term_operations c.args.depth) c.in-Some.operator c.more.here c.in-Some.after _ _ c.in_ok-next.next _ _ c.in-Some.ensures.read c.in_ok-next.ensures c.in_ok-push.ensures.items c.more.invariant

pub more_terms-returns-in_err-next : goal.more_terms-returns-in_err-next
more_terms-returns-in_err-next t c =
    stopped _ _ _ _ _ c.from_residual.ensures.1 (operation_failed c.args.tokens.now (term_operations c.args.depth) c.in-Some.operator c.more.here c.in-Some.after c.more.rest.items c.in_err-next.field-0.0 _ c.in-Some.ensures.read c.in_err-next.ensures c.more.invariant)

pub more_terms-returns : goal.more_terms-returns
more_terms-returns t c =
    operations_done c.args.tokens.now (term_operations c.args.depth) c.more.rest.items c.more.here _ (sym (ap (with_remaining c.args.tokens.now) c.in_default.is) ∙ c.parse_add_operator.ensures.read) c.more.invariant

pub more_expressions-more-smaller : goal.more_expressions-more-smaller
more_expressions-more-smaller t c =
    turn_shorter c.args.tokens.now (expressions c.args.depth) c.expression.result (λ b. b.value) c.more.here c.in-Some.after _ _ _ (sym c.in-Some.ensures.read) c.expression.ensures c.in_ok-here.ensures

pub more_expressions-more-preserved : goal.more_expressions-more-preserved
more_expressions-more-preserved t c =
    turn_kept c.args.tokens.now (expressions c.args.depth) c.expression.result (λ b. b.value) c.more.here c.in-Some.after _ _ _ _ (sym c.in-Some.ensures.read) c.expression.ensures c.in_ok-here.ensures c.more.invariant

pub more_expressions-returns-in_err-here : goal.more_expressions-returns-in_err-here
more_expressions-returns-in_err-here t c =
    stopped _ _ _ _ _ c.from_residual.ensures.1 (turn_failed c.args.tokens.now (expressions c.args.depth) c.expression.result (λ b. b.value) c.more.here c.in-Some.after _ _ c.in_err-here.field-0.0 _ (sym c.in-Some.ensures.read) c.expression.ensures c.in_err-here.ensures c.more.invariant)

pub more_expressions-returns : goal.more_expressions-returns
more_expressions-returns t c =
    turns_done c.args.tokens.now (expressions c.args.depth) c.more.rest.items c.more.here _ (sym c.accept.ensures.read ∙ ap (skipped c.args.tokens.now kinds.Comma) c.in_default.is) c.more.invariant

pub more_elements-more-smaller : goal.more_elements-more-smaller
more_elements-more-smaller t c =
    turn_shorter c.args.tokens.now (elements c.args.depth) c.element.result (λ b. b.value) c.more.here c.in-Some.after _ _ _ (sym c.in-Some.ensures.read) c.element.ensures c.in_ok-here.ensures

pub more_elements-more-preserved : goal.more_elements-more-preserved
more_elements-more-preserved t c =
    turn_kept c.args.tokens.now (elements c.args.depth) c.element.result (λ b. b.value) c.more.here c.in-Some.after _ _ _ _ (sym c.in-Some.ensures.read) c.element.ensures c.in_ok-here.ensures c.more.invariant

pub more_elements-returns-in_err-here : goal.more_elements-returns-in_err-here
more_elements-returns-in_err-here t c =
    stopped _ _ _ _ _ c.from_residual.ensures.1 (turn_failed c.args.tokens.now (elements c.args.depth) c.element.result (λ b. b.value) c.more.here c.in-Some.after _ _ c.in_err-here.field-0.0 _ (sym c.in-Some.ensures.read) c.element.ensures c.in_err-here.ensures c.more.invariant)

pub more_elements-returns : goal.more_elements-returns
more_elements-returns t c =
    turns_done c.args.tokens.now (elements c.args.depth) c.more.rest.items c.more.here _ (sym c.accept.ensures.read ∙ ap (skipped c.args.tokens.now kinds.Comma) c.in_default.is) c.more.invariant

pub selector_list-more-smaller : goal.selector_list-more-smaller
selector_list-more-smaller t c =
    turn_shorter c.args.tokens.now (selectors c.args.depth) c.selector.result (λ x. x) c.more.here c.more.here _ _ _ (has_begun selector_first _ (sym c.begins_selector.ensures ∙ c.more-test.true)) c.selector.ensures c.in_ok-here.ensures

pub selector_list-more-preserved : goal.selector_list-more-preserved
selector_list-more-preserved t c =
    turn_kept c.args.tokens.now (selectors c.args.depth) c.selector.result (λ x. x) c.more.here c.more.here _ _ _ _ (has_begun selector_first _ (sym c.begins_selector.ensures ∙ c.more-test.true)) c.selector.ensures c.in_ok-here.ensures c.more.invariant

pub selector_list-returns-in_err-here : goal.selector_list-returns-in_err-here
selector_list-returns-in_err-here t c =
    stopped _ _ _ _ _ c.from_residual.ensures.1 (turn_failed c.args.tokens.now (selectors c.args.depth) c.selector.result (λ x. x) c.more.here c.more.here _ _ c.in_err-here.field-0.0 _ (has_begun selector_first _ (sym c.begins_selector.ensures ∙ c.more-test.true)) c.selector.ensures c.in_err-here.ensures c.more.invariant)

pub selector_list-returns : goal.selector_list-returns
selector_list-returns t c =
    turns_done c.args.tokens.now (selectors c.args.depth) c.more.selectors.items c.more.here _ (has_not_begun selector_first _ (sym c.begins_selector.ensures ∙ c.more-test.false)) c.more.invariant

pub arguments-returns : goal.arguments-returns
arguments-returns t c =
    gives_some c.args.tokens.now c.expression_list.result (λ l. expr_list_events l.value) c.wrap_in_some.result (unless kinds.RightParen) _ _ _ c.wrap_in_some.ensures (not_closed kinds.RightParen _ (sym c.next_is.ensures ∙ c.if-next_is.false)) c.expression_list.ensures

pub arguments-returns-then-next_is : goal.arguments-returns-then-next_is
unfolding unless
arguments-returns-then-next_is t c = grind arith

pub call-returns : goal.call-returns
call-returns t c = rw (c.in_ok-list.ensures, c.in_ok-rest.ensures.read, arguments_made c.in_ok-list.list) refl

pub designator-returns : goal.designator-returns
unfolding designator_with
designator-returns t c = rw (c.in_ok-selectors.ensures, designator_out (record { head = c.args.head; selectors = c.in_ok-selectors.selectors })) refl

pub element-returns : goal.element-returns
unfolding element_with
element-returns t c = gives_boxed c.args.tokens.now element_events _ _ c.box_value.result _ c.box_value.ensures.of c.box_value.ensures.refused (rw (c.in_ok-low.ensures, c.in_ok-high.ensures, element_made (record { low = c.into_inner.result; high = c.in_ok-high.high }), c.into_inner.ensures) refl)

pub element_list-returns : goal.element_list-returns
unfolding several
element_list-returns t c = gives_boxed c.args.tokens.now element_list_events _ _ c.box_value.result _ c.box_value.ensures.of c.box_value.ensures.refused (rw (c.in_ok-first.ensures, c.in_ok-rest.ensures, element_list_made (record { first = c.into_inner.result; rest = c.in_ok-rest.rest }), c.into_inner.ensures) refl)

pub elements-returns : goal.elements-returns
elements-returns t c =
    gives_some c.args.tokens.now c.element_list.result (λ l. element_list_events l.value) c.wrap_in_some.result (unless kinds.RightBrace) _ _ _ c.wrap_in_some.ensures (not_closed kinds.RightBrace _ (sym c.next_is.ensures ∙ c.if-next_is.false)) c.element_list.ensures

pub elements-returns-then-next_is : goal.elements-returns-then-next_is
unfolding unless
elements-returns-then-next_is t c = grind arith

pub expression-returns : goal.expression-returns
unfolding expr_at expr_with limit_at
expression-returns t c = gives_boxed c.args.tokens.now expr_events _ _ c.box_value.result _ c.box_value.ensures.of c.box_value.ensures.refused (grind (arith, expressions_made))

pub expression-returns-then-depth-eq0 : goal.expression-returns-then-depth-eq0
unfolding expr_at expr_with limit_at
expression-returns-then-depth-eq0 t c = grind (arith, expressions_made)

pub expression_list-returns : goal.expression_list-returns
unfolding several
expression_list-returns t c = gives_boxed c.args.tokens.now expr_list_events _ _ c.box_value.result _ c.box_value.ensures.of c.box_value.ensures.refused (rw (c.in_ok-first.ensures, c.in_ok-rest.ensures, expr_list_made (record { first = c.into_inner.result; rest = c.in_ok-rest.rest }), c.into_inner.ensures) refl)

pub factor-returns-in-Some-Name-default : goal.factor-returns-in-Some-Name-default
factor-returns-in-Some-Name-default t c = rw (factor_seen c.args.depth _ _ (leaf_stands c.args.tokens.now _ c.args.input c.in-Some-Name-default.rest _ (leafs.Name c.in-Some-Name-default.number) c.in-Some-Name-default.is c.in-Some-Name-default.field-0-0-is c.next.ensures.read)) c.named_factor.ensures

pub factor-returns-in-Some-Value-default : goal.factor-returns-in-Some-Value-default
factor-returns-in-Some-Value-default t c = rw (factor_seen c.args.depth _ _ (leaf_stands c.args.tokens.now _ c.args.input c.in-Some-Value-default.rest _ (leafs.Value c.in-Some-Value-default.literal c.in-Some-Value-default.number) c.in-Some-Value-default.is c.in-Some-Value-default.field-0-0-is c.next.ensures.read), value_made c.in-Some-Value-default.literal c.in-Some-Value-default.number) refl

pub factor-returns-in-Some-Word-False-default : goal.factor-returns-in-Some-Word-False-default
factor-returns-in-Some-Word-False-default t c = rw (factor_seen c.args.depth _ _ (word_stands c.args.tokens.now _ c.args.input c.in-Some-Word-False-default.rest _ _ kinds.False c.in-Some-Word-False-default.is c.in-Some-Word-False-default.field-0-0-is c.in-Some-Word-False-default.field-0-0-0-is c.next.ensures.read), false_made) refl

pub factor-returns-in-Some-Word-LeftBrace-default : goal.factor-returns-in-Some-Word-LeftBrace-default
factor-returns-in-Some-Word-LeftBrace-default t c = rw (factor_seen c.args.depth _ _ (word_stands c.args.tokens.now _ c.args.input c.in-Some-Word-LeftBrace-default.rest _ _ kinds.LeftBrace c.in-Some-Word-LeftBrace-default.is c.in-Some-Word-LeftBrace-default.field-0-0-is c.in-Some-Word-LeftBrace-default.field-0-0-0-is c.next.ensures.read)) c.set.ensures

pub factor-returns-in-Some-Word-LeftParen-default : goal.factor-returns-in-Some-Word-LeftParen-default
factor-returns-in-Some-Word-LeftParen-default t c = rw (factor_seen c.args.depth _ _ (word_stands c.args.tokens.now _ c.args.input c.in-Some-Word-LeftParen-default.rest _ _ kinds.LeftParen c.in-Some-Word-LeftParen-default.is c.in-Some-Word-LeftParen-default.field-0-0-is c.in-Some-Word-LeftParen-default.field-0-0-0-is c.next.ensures.read)) c.parenthesized_factor.ensures

pub factor-returns-in-Some-Word-Nil-default : goal.factor-returns-in-Some-Word-Nil-default
factor-returns-in-Some-Word-Nil-default t c = rw (factor_seen c.args.depth _ _ (word_stands c.args.tokens.now _ c.args.input c.in-Some-Word-Nil-default.rest _ _ kinds.Nil c.in-Some-Word-Nil-default.is c.in-Some-Word-Nil-default.field-0-0-is c.in-Some-Word-Nil-default.field-0-0-0-is c.next.ensures.read), nil_made) refl

pub factor-returns-in-Some-Word-Tilde-default : goal.factor-returns-in-Some-Word-Tilde-default
factor-returns-in-Some-Word-Tilde-default t c = rw (factor_seen c.args.depth _ _ (word_stands c.args.tokens.now _ c.args.input c.in-Some-Word-Tilde-default.rest _ _ kinds.Tilde c.in-Some-Word-Tilde-default.is c.in-Some-Word-Tilde-default.field-0-0-is c.in-Some-Word-Tilde-default.field-0-0-0-is c.next.ensures.read)) c.negated_factor.ensures

pub factor-returns-in-Some-Word-True-default : goal.factor-returns-in-Some-Word-True-default
factor-returns-in-Some-Word-True-default t c = rw (factor_seen c.args.depth _ _ (word_stands c.args.tokens.now _ c.args.input c.in-Some-Word-True-default.rest _ _ kinds.True c.in-Some-Word-True-default.is c.in-Some-Word-True-default.field-0-0-is c.in-Some-Word-True-default.field-0-0-0-is c.next.ensures.read), true_made) refl

pub factor-returns-in_default : goal.factor-returns-in_default
unfolding factor_with
factor-returns-in_default t c = grind (arith, expressions_made)

pub parenthesized_factor-returns : goal.parenthesized_factor-returns
parenthesized_factor-returns t c = rw (c.in_ok-inner.ensures, c.in_ok-rest.ensures.read, group_made c.in_ok-inner.inner) refl

pub index-returns : goal.index-returns
index-returns t c = rw (c.in_ok-list.ensures, c.in_ok-rest.ensures.read, index_made c.in_ok-list.list) refl

pub named_factor-returns : goal.named_factor-returns
named_factor-returns t c = rw (c.in_ok-designator.ensures, name_made c.in_ok-designator.designator) refl

pub negated_factor-returns : goal.negated_factor-returns
unfolding negated_at limit_at
negated_factor-returns t c = grind (arith, expressions_made)

pub negated_factor-returns-then-depth-eq0 : goal.negated_factor-returns-then-depth-eq0
unfolding negated_at limit_at
negated_factor-returns-then-depth-eq0 t c = grind (arith, expressions_made)

pub selector-returns-in-Some-Word-Caret-default : goal.selector-returns-in-Some-Word-Caret-default
selector-returns-in-Some-Word-Caret-default t c = rw (selector_seen (expr_at c.args.depth) _ _ (word_stands c.args.tokens.now _ c.args.input c.in-Some-Word-Caret-default.rest _ _ kinds.Caret c.in-Some-Word-Caret-default.is c.in-Some-Word-Caret-default.field-0-0-is c.in-Some-Word-Caret-default.field-0-0-0-is c.next.ensures.read), target_made) refl

pub selector-returns-in-Some-Word-Dot-default : goal.selector-returns-in-Some-Word-Dot-default
selector-returns-in-Some-Word-Dot-default t c = rw (selector_seen (expr_at c.args.depth) _ _ (word_stands c.args.tokens.now _ c.args.input c.in-Some-Word-Dot-default.rest _ _ kinds.Dot c.in-Some-Word-Dot-default.is c.in-Some-Word-Dot-default.field-0-0-is c.in-Some-Word-Dot-default.field-0-0-0-is c.next.ensures.read)) c.field.ensures

pub selector-returns-in-Some-Word-LeftBracket-default : goal.selector-returns-in-Some-Word-LeftBracket-default
selector-returns-in-Some-Word-LeftBracket-default t c = rw (selector_seen (expr_at c.args.depth) _ _ (word_stands c.args.tokens.now _ c.args.input c.in-Some-Word-LeftBracket-default.rest _ _ kinds.LeftBracket c.in-Some-Word-LeftBracket-default.is c.in-Some-Word-LeftBracket-default.field-0-0-is c.in-Some-Word-LeftBracket-default.field-0-0-0-is c.next.ensures.read)) c.index.ensures

pub selector-returns-in-Some-Word-LeftParen-default : goal.selector-returns-in-Some-Word-LeftParen-default
selector-returns-in-Some-Word-LeftParen-default t c = rw (selector_seen (expr_at c.args.depth) _ _ (word_stands c.args.tokens.now _ c.args.input c.in-Some-Word-LeftParen-default.rest _ _ kinds.LeftParen c.in-Some-Word-LeftParen-default.is c.in-Some-Word-LeftParen-default.field-0-0-is c.in-Some-Word-LeftParen-default.field-0-0-0-is c.next.ensures.read)) c.call.ensures

pub selector-returns-in_default : goal.selector-returns-in_default
unfolding selector_with name_at
selector-returns-in_default t c = grind (arith, expressions_made)

pub set-returns : goal.set-returns
set-returns t c = rw (c.in_ok-elements.ensures, c.in_ok-rest.ensures.read, set_made c.in_ok-elements.elements) refl

pub sum-returns : goal.sum-returns
unfolding sum_with
sum-returns t c = gives_boxed c.args.tokens.now sum_events _ _ c.box_value.result _ c.box_value.ensures.of c.box_value.ensures.refused (rw (sym c.sign-sign.ensures.read, c.in_ok-first.ensures, c.in_ok-rest.ensures, sum_made (record { sign = c.sign-sign.result.0; first = c.in_ok-first.first; rest = c.in_ok-rest.rest })) refl)

pub term-returns : goal.term-returns
unfolding term_with
term-returns t c = rw (c.in_ok-first.ensures, c.in_ok-rest.ensures, term_out (record { first = c.in_ok-first.first; rest = c.in_ok-rest.rest })) refl
