use Rattle.std.proofs.Common.{rules, ◌≡◌, ◌-◌, ◌++◌, suc, true, false, length, [], ◌∷◌, None, Ok, refl, sym, ap, ◌∙◌, arith}
use Rattle.ob_scan.specs.declared.kind.Kind.TheVariants as kinds
use Rattle.ob_tree.specs.declared.token.Leaf.TheVariants as leafs
use Rattle.ob_tree.specs.declared.expression.Factor.TheVariants as factors
use Rattle.ob_tree.specs.declared.expression.Expr.{Expr}
use Rattle.ob_tree.specs.declared.expression.Selector.{Selector}
use Rattle.ob_tree.specs.Constructs as constructs
use Rattle.ob_tree.specs.TreeEvents.{Value, word}
use Rattle.ob_tree.specs.Expressions.{relation_kind, factor_events, expr_events, selector_events}
use Rattle.ob_tree.proofs.ExpressionLayers.{expressions_made, value_made, nil_made, true_made, false_made}
use Rattle.module_table.specs.TableStages.{after}
use Rattle.module_table.specs.Parts.{token, both, each}
use Rattle.table_rules.specs.Expressions.{term_rows, factor_rows, element_rows, expr_rows}
use Rattle.module_table.proofs.Steps.{after_nothing}
use Rattle.table_rules.proofs.ExpressionLayers as effect
use Rattle.ob_grammar.specs.declared.cursor.Cursor.{Cursor}
use Rattle.ob_grammar.specs.Lookahead.{uncons, head_is}
use Rattle.ob_grammar.specs.Combinators.{accept_at, expect_at, begins, optional, several, unless, limit_at}
use Rattle.ob_grammar.specs.ParsesAs.{remaining, with_remaining, skipped}
use Rattle.ob_grammar.specs.ReadExpressions.{relation_start, element_with, selector_first, selector_with, designator_with, factor_with, expr_at, negated_at}
use Rattle.ob_grammar.proofs.Loops.{accept_advances, selector_advances, marked_some, marked_none, has_begun, has_not_begun}
use Rattle.ob_grammar.proofs.Somes.{not_closed}
use Rattle.ob_grammar.proofs.SoundExpressions.{expr_at_sound}
use Rattle.table_reader.specs.Shapes.{compared_events, compared_rows, set_events, set_rows, high_events, high_rows, arguments_events, arguments_rows}
use Rattle.table_reader.specs.SelectorShapes.{dot_at, selector_shape_events, selector_stage}
use Rattle.table_reader.proofs.Combine.{told_absent, failed_prefixed}
use Rattle.table_reader.proofs.CallTrees.{list_told, still_begun, further_begun, further_more, further_done, some_arguments_told, call_told}
use Rattle.table_reader.proofs.DesignatorTrees.{Placed, choosing_to, chosen_begun, chosen_kept, chosen_next, chosen_room, chosen_all, none_chosen, selector_so, index_told, designator_told}
use Rattle.table_reader.proofs.Room.{place_behind}
use Rattle.table_reader.proofs.Lists.{listing_smaller, listing_failed, behind_token, repeat_begun, repeat_shorter, repeat_behind, repeat_failed, repeat_done, operations_begun, operation_shorter, operation_told, operation_failed, operations_done}
use Rattle.table_reader.proofs.ExpressionTrees.{expr_deeper, compared_told, sum_told, sum_failed, term_told, term_failed}
use Rattle.table_reader.proofs.FactorTrees.{told_factor, leaf_told, name_told, set_told, group_told, not_told, between_failed, closed, some_elements_told, element_list_told, element_told, element_failed, several_failed, high_told}
use Rattle.table_reader.proofs.Operands.{lone_factor_told, operated_told, factor_fails, factors_fail, terms_fail}
use Rattle.ob_grammar.proofs.Repetitions.{elements, factor_operations, term_operations}
use Rattle.ob_grammar.proofs.Lookaheads.{leaf_stands, word_stands}
use Rattle.table_reader.proofs.expressions.+expressions.Goals as goal

pub expression-returns-then-depth-eq0-clause-effect : goal.expression-returns-then-depth-eq0-clause-effect
unfolding expr_at limit_at
expression-returns-then-depth-eq0-clause-effect t c = grind arith

pub expression-returns-then-not-is_operator_at-clause-effect : goal.expression-returns-then-not-is_operator_at-clause-effect
expression-returns-then-not-is_operator_at-clause-effect t c =
    rw (expr_deeper c.args.depth (remaining c.args.source.now.tokens.now c.args.input) c.if-depth-eq0.false)
    (lone_factor_told c.args.source.now.tokens.now c.args.context (c.args.depth - 1) _ _ _ c.args.input _ c.in-Ok.here c.optional_sign-here.ensures.effect c.in-Ok.ensures.effect (sym c.is_operator_at.ensures ∙ c.if-not-is_operator_at.true))

pub expression-returns-in-Ok-more_terms-clause-effect : goal.expression-returns-in-Ok-more_terms-clause-effect
expression-returns-in-Ok-more_terms-clause-effect t c =
    rw (expr_deeper c.args.depth (remaining c.args.source.now.tokens.now c.args.input) c.if-depth-eq0.false)
    (operated_told c.args.source.now.tokens.now c.args.context (c.args.depth - 1) _ _ _ _ _ _ c.args.input _ c.in-Ok.here c.in-Ok-more_factors.here c.in-Ok-more_terms.here _ c.optional_sign-here.ensures.effect c.in-Ok.ensures.effect c.in-Ok-more_factors.ensures.effect c.in-Ok-more_terms.ensures.effect c.comparison.ensures.effect)

pub expression-returns-in-Err-more_terms-clause-effect : goal.expression-returns-in-Err-more_terms-clause-effect
expression-returns-in-Err-more_terms-clause-effect t c =
    rw (expr_deeper c.args.depth (remaining c.args.source.now.tokens.now c.args.input) c.if-depth-eq0.false)
    (terms_fail c.args.source.now.tokens.now c.args.context (c.args.depth - 1) _ _ _ _ _ c.more_terms.new.builder c.args.input _ c.in-Ok.here c.in-Ok-more_factors.here c.optional_sign-here.ensures.effect c.in-Ok.ensures.effect c.in-Ok-more_factors.ensures.effect c.in-Err-more_terms.ensures.effect)

pub expression-returns-in-Err-more_factors-clause-effect : goal.expression-returns-in-Err-more_factors-clause-effect
expression-returns-in-Err-more_factors-clause-effect t c =
    rw (expr_deeper c.args.depth (remaining c.args.source.now.tokens.now c.args.input) c.if-depth-eq0.false)
    (factors_fail c.args.source.now.tokens.now c.args.context (c.args.depth - 1) _ _ _ _ c.more_factors.new.builder c.args.input _ c.in-Ok.here c.optional_sign-here.ensures.effect c.in-Ok.ensures.effect c.in-Err-more_factors.ensures.effect)

pub expression-returns-in-Err-clause-effect : goal.expression-returns-in-Err-clause-effect
expression-returns-in-Err-clause-effect t c =
    rw (expr_deeper c.args.depth (remaining c.args.source.now.tokens.now c.args.input) c.if-depth-eq0.false) (factor_fails c.args.source.now.tokens.now c.args.context (c.args.depth - 1) _ _ _ c.args.input _ c.optional_sign-here.ensures.effect c.in-Err.ensures.effect)

pub comparison-returns-in-None-clause-effect : goal.comparison-returns-in-None-clause-effect
comparison-returns-in-None-clause-effect t c =
    told_absent c.args.source.now.tokens.now compared_events (λ x. after (compared_rows x) c.args.context) None relation_start _ _ c.args.input refl (λ s. after_nothing c.args.context s)
    (marked_none relation_kind _ (sym (ap (with_remaining c.args.source.now.tokens.now) c.in-None.is) ∙ c.relation.ensures.read))

pub comparison-returns-in-Some-clause-effect : goal.comparison-returns-in-Some-clause-effect
comparison-returns-in-Some-clause-effect t c =
    compared_told c.args.source.now.tokens.now c.args.context c.args.depth _ _ _ c.args.input c.in-Some.field-0-0 c.in-Some.rest _
    (marked_some relation_kind c.in-Some.field-0-0 (remaining c.args.source.now.tokens.now c.in-Some.rest) _ (sym (ap (with_remaining c.args.source.now.tokens.now) c.in-Some.is) ∙ c.relation.ensures.read)) c.advance.ensures.stage c.sum.ensures.effect

pub sum-returns-in-Ok-clause-effect : goal.sum-returns-in-Ok-clause-effect
sum-returns-in-Ok-clause-effect t c = sum_told c.args.source.now.tokens.now c.args.context c.args.depth _ _ _ _ c.args.input _ c.in-Ok.here _ c.optional_sign-here.ensures.effect c.in-Ok.ensures.effect c.more_terms.ensures.effect

pub sum-returns-in-Err-clause-effect : goal.sum-returns-in-Err-clause-effect
sum-returns-in-Err-clause-effect t c = sum_failed c.args.source.now.tokens.now c.args.context c.args.depth _ _ _ c.args.input _ c.optional_sign-here.ensures.effect c.in-Err.ensures.effect

pub term-returns-in-Ok-clause-effect : goal.term-returns-in-Ok-clause-effect
term-returns-in-Ok-clause-effect t c = term_told c.args.source.now.tokens.now c.args.context c.args.depth _ _ _ c.args.input c.in-Ok.here _ c.in-Ok.ensures.effect c.more_factors.ensures.effect

pub term-returns-in-Err-clause-effect : goal.term-returns-in-Err-clause-effect
term-returns-in-Err-clause-effect t c = term_failed c.args.source.now.tokens.now c.args.depth _ c.args.input c.in-Err.ensures.effect

pub more_terms-more-init : goal.more_terms-more-init
more_terms-more-init t c = (operations_begun c.args.source.now.tokens.now (term_operations c.args.depth) term_rows c.args.context _ c.args.input, c.requires)

pub more_terms-more-smaller : goal.more_terms-more-smaller
more_terms-more-smaller t c =
    operation_shorter c.args.source.now.tokens.now (term_operations c.args.depth) term_rows c.args.context c.in-Some.field-0-0 _ _ c.more.here c.in-Some.following c.in-Ok.next (sym (ap (with_remaining c.args.source.now.tokens.now) c.in-Some.is) ∙ c.parse_add_operator.ensures.read) c.in-Ok.ensures.effect

pub more_terms-more-preserved : goal.more_terms-more-preserved
more_terms-more-preserved t c = (operation_told c.args.source.now.tokens.now (term_operations c.args.depth) term_rows c.args.context c.in-Some.field-0-0 _ _ _ _ c.args.input c.more.here c.in-Some.following c.in-Ok.next (sym (ap (with_remaining c.args.source.now.tokens.now) c.in-Some.is) ∙ c.parse_add_operator.ensures.read) c.more.invariant.0 c.advance.ensures.stage c.in-Ok.ensures.effect, c.in-Ok.ensures.number)

pub more_terms-returns-in-Err-clause-effect : goal.more_terms-returns-in-Err-clause-effect
more_terms-returns-in-Err-clause-effect t c =
    operation_failed c.args.source.now.tokens.now (term_operations c.args.depth) term_rows c.args.context c.in-Some.field-0-0 c.in-Err.stop _ _ c.args.input c.more.here c.in-Some.following (sym (ap (with_remaining c.args.source.now.tokens.now) c.in-Some.is) ∙ c.parse_add_operator.ensures.read) c.more.invariant.0 c.in-Err.ensures.effect

pub more_terms-returns-clause-effect : goal.more_terms-returns-clause-effect
more_terms-returns-clause-effect t c =
    operations_done c.args.source.now.tokens.now (term_operations c.args.depth) term_rows c.args.context _ _ c.args.input c.more.here (sym (ap (with_remaining c.args.source.now.tokens.now) c.in_default.is) ∙ c.parse_add_operator.ensures.read) c.more.invariant.0

pub more_factors-more-init : goal.more_factors-more-init
more_factors-more-init t c = (operations_begun c.args.source.now.tokens.now (factor_operations c.args.depth) factor_rows c.args.context _ c.args.input, c.requires)

pub more_factors-more-smaller : goal.more_factors-more-smaller
more_factors-more-smaller t c =
    operation_shorter c.args.source.now.tokens.now (factor_operations c.args.depth) factor_rows c.args.context c.in-Some.field-0-0 _ _ c.more.here c.in-Some.following c.in-Ok.next (sym (ap (with_remaining c.args.source.now.tokens.now) c.in-Some.is) ∙ c.parse_mul_operator.ensures.read) c.in-Ok.ensures.effect

pub more_factors-more-preserved : goal.more_factors-more-preserved
more_factors-more-preserved t c = (operation_told c.args.source.now.tokens.now (factor_operations c.args.depth) factor_rows c.args.context c.in-Some.field-0-0 _ _ _ _ c.args.input c.more.here c.in-Some.following c.in-Ok.next (sym (ap (with_remaining c.args.source.now.tokens.now) c.in-Some.is) ∙ c.parse_mul_operator.ensures.read) c.more.invariant.0 c.advance.ensures.stage c.in-Ok.ensures.effect, c.in-Ok.ensures.number)

pub more_factors-returns-in-Err-clause-effect : goal.more_factors-returns-in-Err-clause-effect
more_factors-returns-in-Err-clause-effect t c =
    operation_failed c.args.source.now.tokens.now (factor_operations c.args.depth) factor_rows c.args.context c.in-Some.field-0-0 c.in-Err.stop _ _ c.args.input c.more.here c.in-Some.following (sym (ap (with_remaining c.args.source.now.tokens.now) c.in-Some.is) ∙ c.parse_mul_operator.ensures.read) c.more.invariant.0 c.in-Err.ensures.effect

pub more_factors-returns-clause-effect : goal.more_factors-returns-clause-effect
more_factors-returns-clause-effect t c =
    operations_done c.args.source.now.tokens.now (factor_operations c.args.depth) factor_rows c.args.context _ _ c.args.input c.more.here (sym (ap (with_remaining c.args.source.now.tokens.now) c.in_default.is) ∙ c.parse_mul_operator.ensures.read) c.more.invariant.0

pub more_elements-more-init : goal.more_elements-more-init
more_elements-more-init t c = (repeat_begun c.args.source.now.tokens.now (elements c.args.depth) (behind_token element_rows) c.args.context _ c.args.input, c.requires)

pub more_elements-more-smaller : goal.more_elements-more-smaller
more_elements-more-smaller t c =
    repeat_shorter c.args.source.now.tokens.now (elements c.args.depth) element_rows c.args.context _ _ c.more.here c.in-Some.following c.in-Ok.next (sym c.accept.ensures.read ∙ ap (skipped c.args.source.now.tokens.now kinds.Comma) c.in-Some.is) c.in-Ok.ensures.effect

pub more_elements-more-preserved : goal.more_elements-more-preserved
more_elements-more-preserved t c = (repeat_behind c.args.source.now.tokens.now (elements c.args.depth) element_rows c.args.context _ _ _ _ c.args.input c.more.here c.in-Some.following c.in-Ok.next (sym c.accept.ensures.read ∙ ap (skipped c.args.source.now.tokens.now kinds.Comma) c.in-Some.is) c.more.invariant.0 c.advance.ensures.stage c.in-Ok.ensures.effect, c.in-Ok.ensures.number)

pub more_elements-returns-in-Err-clause-effect : goal.more_elements-returns-in-Err-clause-effect
more_elements-returns-in-Err-clause-effect t c =
    repeat_failed c.args.source.now.tokens.now (elements c.args.depth) (behind_token element_rows) c.args.context c.in-Err.stop _ _ c.args.input c.more.here c.in-Some.following (sym c.accept.ensures.read ∙ ap (skipped c.args.source.now.tokens.now kinds.Comma) c.in-Some.is) c.more.invariant.0 c.in-Err.ensures.effect

pub more_elements-returns-clause-effect : goal.more_elements-returns-clause-effect
more_elements-returns-clause-effect t c =
    repeat_done c.args.source.now.tokens.now (elements c.args.depth) (behind_token element_rows) c.args.context _ _ c.args.input c.more.here (sym c.accept.ensures.read ∙ ap (skipped c.args.source.now.tokens.now kinds.Comma) c.in_default.is) c.more.invariant.0

pub factor-returns-in-Some-Name-default-clause-effect : goal.factor-returns-in-Some-Name-default-clause-effect
factor-returns-in-Some-Name-default-clause-effect t c =
    let e = leaf_stands c.args.source.now.tokens.now _ c.args.input c.in-Some-Name-default.rest _ (leafs.Name c.in-Some-Name-default.number) c.in-Some-Name-default.is c.in-Some-Name-default.field-0-0-is c.next.ensures.read in
    told_factor c.args.source.now.tokens.now factor_events (λ x. after (factor_rows x) c.args.context) c.args.depth _ _ _ _ _ e (name_told c.args.source.now.tokens.now c.args.context (λ z. designator_with (expr_at c.args.depth) c.in-Some-Name-default.number (remaining c.args.source.now.tokens.now c.in-Some-Name-default.rest)) _ _ _ (remaining c.args.source.now.tokens.now c.args.input) c.designator.ensures.effect)

pub factor-returns-in-Some-Value-default-clause-effect : goal.factor-returns-in-Some-Value-default-clause-effect
factor-returns-in-Some-Value-default-clause-effect t c =
    let e = leaf_stands c.args.source.now.tokens.now _ c.args.input c.in-Some-Value-default.rest _ (leafs.Value c.in-Some-Value-default.field-0-0-0 c.in-Some-Value-default.field-0-0-1) c.in-Some-Value-default.is c.in-Some-Value-default.field-0-0-is c.next.ensures.read in
    told_factor c.args.source.now.tokens.now factor_events (λ x. after (factor_rows x) c.args.context) c.args.depth _ _ (Ok c.advance_token.result) _ _ e
    (leaf_told c.args.source.now.tokens.now c.args.context _ _ c.advance_token.result (λ z. Ok (Value c.in-Some-Value-default.field-0-0-0 c.in-Some-Value-default.field-0-0-1 ∷ [], remaining c.args.source.now.tokens.now c.in-Some-Value-default.rest)) (remaining c.args.source.now.tokens.now c.args.input) (Value c.in-Some-Value-default.field-0-0-0 c.in-Some-Value-default.field-0-0-1 ∷ []) (factors.Value c.in-Some-Value-default.field-0-0-0 c.in-Some-Value-default.field-0-0-1)
    (ap (λ (i : Cursor). Ok (Value c.in-Some-Value-default.field-0-0-0 c.in-Some-Value-default.field-0-0-1 ∷ [], remaining c.args.source.now.tokens.now i)) (sym c.advance_token.ensures.cursor)) (value_made c.in-Some-Value-default.field-0-0-0 c.in-Some-Value-default.field-0-0-1) (effect.value_made c.in-Some-Value-default.field-0-0-0 c.in-Some-Value-default.field-0-0-1) c.advance_token.ensures.stage)

pub factor-returns-in-Some-Word-Nil-default-clause-effect : goal.factor-returns-in-Some-Word-Nil-default-clause-effect
factor-returns-in-Some-Word-Nil-default-clause-effect t c =
    let e = word_stands c.args.source.now.tokens.now _ c.args.input c.in-Some-Word-Nil-default.rest _ _ kinds.Nil c.in-Some-Word-Nil-default.is c.in-Some-Word-Nil-default.field-0-0-is c.in-Some-Word-Nil-default.field-0-0-0-is c.next.ensures.read in
    told_factor c.args.source.now.tokens.now factor_events (λ x. after (factor_rows x) c.args.context) c.args.depth _ _ (Ok c.advance_token-in-Some-Word-Nil-default.result) _ _ e
    (leaf_told c.args.source.now.tokens.now c.args.context _ _ c.advance_token-in-Some-Word-Nil-default.result (λ z. Ok (word kinds.Nil, remaining c.args.source.now.tokens.now c.in-Some-Word-Nil-default.rest)) (remaining c.args.source.now.tokens.now c.args.input) (word kinds.Nil) factors.Nil
    (ap (λ (i : Cursor). Ok (word kinds.Nil, remaining c.args.source.now.tokens.now i)) (sym c.advance_token-in-Some-Word-Nil-default.ensures.cursor)) nil_made effect.nil_made c.advance_token-in-Some-Word-Nil-default.ensures.stage)

pub factor-returns-in-Some-Word-True-default-clause-effect : goal.factor-returns-in-Some-Word-True-default-clause-effect
factor-returns-in-Some-Word-True-default-clause-effect t c =
    let e = word_stands c.args.source.now.tokens.now _ c.args.input c.in-Some-Word-True-default.rest _ _ kinds.True c.in-Some-Word-True-default.is c.in-Some-Word-True-default.field-0-0-is c.in-Some-Word-True-default.field-0-0-0-is c.next.ensures.read in
    told_factor c.args.source.now.tokens.now factor_events (λ x. after (factor_rows x) c.args.context) c.args.depth _ _ (Ok c.advance_token-in-Some-Word-True-default.result) _ _ e
    (leaf_told c.args.source.now.tokens.now c.args.context _ _ c.advance_token-in-Some-Word-True-default.result (λ z. Ok (word kinds.True, remaining c.args.source.now.tokens.now c.in-Some-Word-True-default.rest)) (remaining c.args.source.now.tokens.now c.args.input) (word kinds.True) factors.True
    (ap (λ (i : Cursor). Ok (word kinds.True, remaining c.args.source.now.tokens.now i)) (sym c.advance_token-in-Some-Word-True-default.ensures.cursor)) true_made effect.true_made c.advance_token-in-Some-Word-True-default.ensures.stage)

pub factor-returns-in-Some-Word-False-default-clause-effect : goal.factor-returns-in-Some-Word-False-default-clause-effect
factor-returns-in-Some-Word-False-default-clause-effect t c =
    let e = word_stands c.args.source.now.tokens.now _ c.args.input c.in-Some-Word-False-default.rest _ _ kinds.False c.in-Some-Word-False-default.is c.in-Some-Word-False-default.field-0-0-is c.in-Some-Word-False-default.field-0-0-0-is c.next.ensures.read in
    told_factor c.args.source.now.tokens.now factor_events (λ x. after (factor_rows x) c.args.context) c.args.depth _ _ (Ok c.advance_token-in-Some-Word-False-default.result) _ _ e
    (leaf_told c.args.source.now.tokens.now c.args.context _ _ c.advance_token-in-Some-Word-False-default.result (λ z. Ok (word kinds.False, remaining c.args.source.now.tokens.now c.in-Some-Word-False-default.rest)) (remaining c.args.source.now.tokens.now c.args.input) (word kinds.False) factors.False
    (ap (λ (i : Cursor). Ok (word kinds.False, remaining c.args.source.now.tokens.now i)) (sym c.advance_token-in-Some-Word-False-default.ensures.cursor)) false_made effect.false_made c.advance_token-in-Some-Word-False-default.ensures.stage)

pub factor-returns-in-Some-Word-LeftBrace-default-clause-effect : goal.factor-returns-in-Some-Word-LeftBrace-default-clause-effect
factor-returns-in-Some-Word-LeftBrace-default-clause-effect t c =
    let e = word_stands c.args.source.now.tokens.now _ c.args.input c.in-Some-Word-LeftBrace-default.rest _ _ kinds.LeftBrace c.in-Some-Word-LeftBrace-default.is c.in-Some-Word-LeftBrace-default.field-0-0-is c.in-Some-Word-LeftBrace-default.field-0-0-0-is c.next.ensures.read in
    told_factor c.args.source.now.tokens.now factor_events (λ x. after (factor_rows x) c.args.context) c.args.depth _ _ _ _ _ e c.set.ensures.effect

pub factor-returns-in-Some-Word-LeftParen-default-clause-effect : goal.factor-returns-in-Some-Word-LeftParen-default-clause-effect
factor-returns-in-Some-Word-LeftParen-default-clause-effect t c =
    let e = word_stands c.args.source.now.tokens.now _ c.args.input c.in-Some-Word-LeftParen-default.rest _ _ kinds.LeftParen c.in-Some-Word-LeftParen-default.is c.in-Some-Word-LeftParen-default.field-0-0-is c.in-Some-Word-LeftParen-default.field-0-0-0-is c.next.ensures.read in
    told_factor c.args.source.now.tokens.now factor_events (λ x. after (factor_rows x) c.args.context) c.args.depth _ _ _ _ _ e c.parenthesized_factor.ensures.effect

pub factor-returns-in-Some-Word-Tilde-default-clause-effect : goal.factor-returns-in-Some-Word-Tilde-default-clause-effect
factor-returns-in-Some-Word-Tilde-default-clause-effect t c =
    let e = word_stands c.args.source.now.tokens.now _ c.args.input c.in-Some-Word-Tilde-default.rest _ _ kinds.Tilde c.in-Some-Word-Tilde-default.is c.in-Some-Word-Tilde-default.field-0-0-is c.in-Some-Word-Tilde-default.field-0-0-0-is c.next.ensures.read in
    told_factor c.args.source.now.tokens.now factor_events (λ x. after (factor_rows x) c.args.context) c.args.depth _ _ _ _ _ e c.negated_factor.ensures.effect

pub factor-returns-in_default-clause-effect : goal.factor-returns-in_default-clause-effect
unfolding factor_with
factor-returns-in_default-clause-effect t c = grind (arith, expressions_made)

pub factor-returns-in_default-2-clause-effect : goal.factor-returns-in_default-2-clause-effect
unfolding factor_with
factor-returns-in_default-2-clause-effect t c = grind (arith, expressions_made)

pub set-returns-in-Ok-clause-effect : goal.set-returns-in-Ok-clause-effect
set-returns-in-Ok-clause-effect t c = set_told c.args.source.now.tokens.now c.args.context (optional (unless kinds.RightBrace) (several kinds.Comma (element_with (expr_at c.args.depth)))) _ _ _ _ c.args.input c.in-Ok.here _ c.advance.ensures.stage c.in-Ok.ensures.effect c.expect_word.ensures.effect

pub set-returns-in-Err-clause-effect : goal.set-returns-in-Err-clause-effect
set-returns-in-Err-clause-effect t c = between_failed c.args.source.now.tokens.now constructs.Factor (word kinds.LeftBrace) (optional (unless kinds.RightBrace) (several kinds.Comma (element_with (expr_at c.args.depth)))) (expect_at kinds.RightBrace) _ (remaining c.args.source.now.tokens.now c.args.input) c.in-Err.ensures.effect

pub parenthesized_factor-returns-in-Ok-clause-effect : goal.parenthesized_factor-returns-in-Ok-clause-effect
parenthesized_factor-returns-in-Ok-clause-effect t c = group_told c.args.source.now.tokens.now c.args.context (expr_at c.args.depth) _ _ _ _ c.args.input c.in-Ok.here _ c.advance.ensures.stage c.in-Ok.ensures.effect c.expect_word.ensures.effect

pub parenthesized_factor-returns-in-Err-clause-effect : goal.parenthesized_factor-returns-in-Err-clause-effect
parenthesized_factor-returns-in-Err-clause-effect t c = between_failed c.args.source.now.tokens.now constructs.Factor (word kinds.LeftParen) (expr_at c.args.depth) (expect_at kinds.RightParen) _ (remaining c.args.source.now.tokens.now c.args.input) c.in-Err.ensures.effect

pub negated_factor-returns-then-depth-eq0-clause-effect : goal.negated_factor-returns-then-depth-eq0-clause-effect
unfolding negated_at limit_at
negated_factor-returns-then-depth-eq0-clause-effect t c = grind arith

pub negated_factor-returns-clause-effect : goal.negated_factor-returns-clause-effect
negated_factor-returns-clause-effect t c = not_told c.args.source.now.tokens.now c.args.context c.args.depth _ _ _ c.args.input _ c.if-depth-eq0.false c.advance.ensures.stage c.factor.ensures.effect

pub elements-returns-then-next_is-clause-effect : goal.elements-returns-then-next_is-clause-effect
elements-returns-then-next_is-clause-effect t c =
    told_absent c.args.source.now.tokens.now set_events (λ x. after (set_rows x) c.args.context) None (unless kinds.RightBrace) _ _ c.args.input refl (λ s. after_nothing c.args.context s) (closed kinds.RightBrace _ (sym c.next_is.ensures ∙ c.if-next_is.true))

pub elements-returns-clause-effect : goal.elements-returns-clause-effect
elements-returns-clause-effect t c =
    some_elements_told c.args.source.now.tokens.now c.args.context _ _ _ c.args.input _ (not_closed kinds.RightBrace _ (sym c.next_is.ensures ∙ c.if-next_is.false)) c.element_list.ensures.effect

pub element_list-returns-in-Ok-clause-effect : goal.element_list-returns-in-Ok-clause-effect
element_list-returns-in-Ok-clause-effect t c = element_list_told c.args.source.now.tokens.now c.args.context _ _ _ _ c.args.input c.in-Ok.here _ c.in-Ok.ensures.effect c.more_elements.ensures.effect

pub element_list-returns-in-Err-clause-effect : goal.element_list-returns-in-Err-clause-effect
element_list-returns-in-Err-clause-effect t c = several_failed c.args.source.now.tokens.now kinds.Comma _ _ _ c.in-Err.ensures.effect

pub element-returns-in-Ok-clause-effect : goal.element-returns-in-Ok-clause-effect
element-returns-in-Ok-clause-effect t c = element_told c.args.source.now.tokens.now c.args.context c.args.depth _ _ _ c.args.input c.in-Ok.here _ c.in-Ok.ensures.effect c.upper_bound.ensures.effect

pub element-returns-in-Err-clause-effect : goal.element-returns-in-Err-clause-effect
element-returns-in-Err-clause-effect t c = element_failed c.args.source.now.tokens.now c.args.depth _ c.args.input c.in-Err.ensures.effect

pub upper_bound-returns-in-None-clause-effect : goal.upper_bound-returns-in-None-clause-effect
upper_bound-returns-in-None-clause-effect t c =
    told_absent c.args.source.now.tokens.now high_events (λ x. after (high_rows x) c.args.context) None (accept_at kinds.DotDot) _ _ c.args.input refl (λ s. after_nothing c.args.context s) (sym c.accept.ensures.read ∙ ap (skipped c.args.source.now.tokens.now kinds.DotDot) c.in-None.is)

pub upper_bound-returns-in-Some-clause-effect : goal.upper_bound-returns-in-Some-clause-effect
upper_bound-returns-in-Some-clause-effect t c =
    high_told c.args.source.now.tokens.now c.args.context c.args.depth _ _ _ c.args.input c.in-Some.rest _ (sym c.accept.ensures.read ∙ ap (skipped c.args.source.now.tokens.now kinds.DotDot) c.in-Some.is) c.advance.ensures.stage c.expression.ensures.effect

pub designator-returns-then-not-begins_selector-clause-effect : goal.designator-returns-then-not-begins_selector-clause-effect
designator-returns-then-not-begins_selector-clause-effect t c =
    let none : head_is selector_first (uncons (remaining c.args.source.now.tokens.now c.args.input)) ≡ false = sym c.begins_selector.ensures ∙ c.if-not-begins_selector.true in
    designator_told c.args.source.now.tokens.now c.args.context false c.args.depth c.args.number _ _ _ _ _ _ c.args.input (Ok c.args.input) refl c.add_designator.ensures.stage c.member_placeholder.ensures.dot c.append_use.ensures.stage
    (none_chosen c.args.source.now.tokens.now (selector_with (expr_at c.args.depth)) c.args.context _ (selector_advances c.args.depth _ (expr_at_sound c.args.depth)) _ c.args.input none (has_not_begun selector_first (remaining c.args.source.now.tokens.now c.args.input) none))

pub designator-returns-clause-effect : goal.designator-returns-clause-effect
designator-returns-clause-effect t c =
    designator_told c.args.source.now.tokens.now c.args.context false c.args.depth c.args.number _ _ _ _ _ _ c.args.input _ refl c.add_designator.ensures.stage c.member_placeholder.ensures.dot c.append_use.ensures.stage c.selectors.ensures.effect

pub selectors-more-init : goal.selectors-more-init
selectors-more-init t c = (chosen_begun c.args.source.now.tokens.now (selector_with (expr_at c.args.depth)) c.args.context c.args.head c.selector_count-at.result c.selector_count-end.result c.estimate_selectors.result _ _ c.args.input c.selector_count-at.ensures c.reserve_slots.ensures.stage c.selector_count-end.ensures, c.reserve_slots.ensures.number ∙ c.requires)

pub selectors-ensure_slot-end-requires : goal.selectors-ensure_slot-end-requires
selectors-ensure_slot-end-requires t c =
    chosen_room c.args.source.now.tokens.now (selector_with (expr_at c.args.depth)) c.args.context c.args.head c.selector_count-at.result c.more.slot c.more.end _ _ c.args.input c.more.here c.selector_count-at.ensures c.more.invariant.0

pub selectors-more-smaller : goal.selectors-more-smaller
selectors-more-smaller t c =
    listing_smaller c.args.source.now.tokens.now (begins selector_first) (selector_with (expr_at c.args.depth)) (selector_shape_events {dot = dot_at c.args.source.now.tokens.now c.more.here}) (selector_stage c.args.head c.more.slot c.args.context) [] (selector_advances c.args.depth _ (expr_at_sound c.args.depth)) _ _ c.more.here c.more.here c.in-Ok.next
    (has_begun selector_first (remaining c.args.source.now.tokens.now c.more.here) (sym c.begins_selector.ensures ∙ c.more-test.true)) c.in-Ok.ensures.effect

pub selectors-more-preserved : goal.selectors-more-preserved
selectors-more-preserved t c = (chosen_next c.args.source.now.tokens.now (selector_with (expr_at c.args.depth)) c.args.context c.args.head c.selector_count-at.result c.more.slot _ _ (selector_advances c.args.depth _ (expr_at_sound c.args.depth)) _ _ _ c.args.input c.more.here c.in-Ok.next (has_begun selector_first (remaining c.args.source.now.tokens.now c.more.here) (sym c.begins_selector.ensures ∙ c.more-test.true)) (chosen_kept c.args.source.now.tokens.now (selector_with (expr_at c.args.depth)) c.args.context c.args.head c.selector_count-at.result c.more.slot c.more.end _ _ _ _ c.args.input c.more.here c.selector_count-at.ensures c.ensure_slot-end.ensures.room c.more.invariant.0) c.in-Ok.ensures.effect (λ e. place_behind c.more.slot _ c.ensure_slot-end.new.builder c.saturating_add-slot.ensures (c.ensure_slot-end.ensures.slot e)), c.in-Ok.ensures.number)

pub selectors-returns-in-Err-clause-effect : goal.selectors-returns-in-Err-clause-effect
selectors-returns-in-Err-clause-effect t c =
    listing_failed {X = Selector} c.args.source.now.tokens.now (begins selector_first) (selector_with (expr_at c.args.depth)) selector_events (choosing_to c.args.head c.selector_count-at.result c.more.end c.args.context)
    (Placed c.args.source.now.tokens.now c.selector_count-at.result c.more.slot c.more.end c.args.input c.more.here) c.in-Err.stop [] (selector_advances c.args.depth _ (expr_at_sound c.args.depth)) _ _ c.args.input c.more.here c.more.here (has_begun selector_first (remaining c.args.source.now.tokens.now c.more.here) (sym c.begins_selector.ensures ∙ c.more-test.true)) c.more.invariant.0 c.in-Err.ensures.effect

pub selectors-trim_slots-requires : goal.selectors-trim_slots-requires
selectors-trim_slots-requires t c =
    chosen_room c.args.source.now.tokens.now (selector_with (expr_at c.args.depth)) c.args.context c.args.head c.selector_count-at.result c.more.slot c.more.end _ _ c.args.input c.more.here c.selector_count-at.ensures c.more.invariant.0

pub selectors-returns-clause-effect : goal.selectors-returns-clause-effect
selectors-returns-clause-effect t c =
    let none : head_is selector_first (uncons (remaining c.args.source.now.tokens.now c.more.here)) ≡ false = sym c.begins_selector.ensures ∙ c.more-test.false in
    chosen_all c.args.source.now.tokens.now (selector_with (expr_at c.args.depth)) c.args.context c.args.head c.selector_count-at.result c.more.slot c.more.end (selector_advances c.args.depth _ (expr_at_sound c.args.depth)) _ _ _ c.args.input c.more.here c.selector_count-at.ensures none (has_not_begun selector_first (remaining c.args.source.now.tokens.now c.more.here) none) c.more.invariant.0 c.trim_slots.ensures.stage

pub selector-returns-in-Some-Word-Dot-default-clause-effect : goal.selector-returns-in-Some-Word-Dot-default-clause-effect
selector-returns-in-Some-Word-Dot-default-clause-effect t c =
    let e = word_stands c.args.source.now.tokens.now _ c.args.input c.in-Some-Word-Dot-default.rest _ _ kinds.Dot c.in-Some-Word-Dot-default.is c.in-Some-Word-Dot-default.field-0-0-is c.in-Some-Word-Dot-default.field-0-0-0-is c.next.ensures.read in
    selector_so c.args.source.now.tokens.now c.args.context c.args.head c.args.slot (expr_at c.args.depth) _ _ c.field.result c.args.input true _ e refl c.field.ensures.effect

pub selector-returns-in-Some-Word-LeftBracket-default-clause-effect : goal.selector-returns-in-Some-Word-LeftBracket-default-clause-effect
selector-returns-in-Some-Word-LeftBracket-default-clause-effect t c =
    let e = word_stands c.args.source.now.tokens.now _ c.args.input c.in-Some-Word-LeftBracket-default.rest _ _ kinds.LeftBracket c.in-Some-Word-LeftBracket-default.is c.in-Some-Word-LeftBracket-default.field-0-0-is c.in-Some-Word-LeftBracket-default.field-0-0-0-is c.next.ensures.read in
    selector_so c.args.source.now.tokens.now c.args.context c.args.head c.args.slot (expr_at c.args.depth) _ _ c.index.result c.args.input false _ e refl c.index.ensures.effect

pub selector-returns-in-Some-Word-Caret-default-clause-effect : goal.selector-returns-in-Some-Word-Caret-default-clause-effect
selector-returns-in-Some-Word-Caret-default-clause-effect t c =
    let e = word_stands c.args.source.now.tokens.now _ c.args.input c.in-Some-Word-Caret-default.rest _ _ kinds.Caret c.in-Some-Word-Caret-default.is c.in-Some-Word-Caret-default.field-0-0-is c.in-Some-Word-Caret-default.field-0-0-0-is c.next.ensures.read in
    selector_so c.args.source.now.tokens.now c.args.context c.args.head c.args.slot (expr_at c.args.depth) _ _ (Ok c.caret_selector.result) c.args.input false _ e refl c.caret_selector.ensures.effect

pub selector-returns-in-Some-Word-LeftParen-default-clause-effect : goal.selector-returns-in-Some-Word-LeftParen-default-clause-effect
selector-returns-in-Some-Word-LeftParen-default-clause-effect t c =
    let e = word_stands c.args.source.now.tokens.now _ c.args.input c.in-Some-Word-LeftParen-default.rest _ _ kinds.LeftParen c.in-Some-Word-LeftParen-default.is c.in-Some-Word-LeftParen-default.field-0-0-is c.in-Some-Word-LeftParen-default.field-0-0-0-is c.next.ensures.read in
    selector_so c.args.source.now.tokens.now c.args.context c.args.head c.args.slot (expr_at c.args.depth) _ _ c.call.result c.args.input false _ e refl c.call.ensures.effect

pub selector-returns-in_default-clause-effect : goal.selector-returns-in_default-clause-effect
unfolding selector_with
selector-returns-in_default-clause-effect t c = grind arith

pub selector-returns-in_default-2-clause-effect : goal.selector-returns-in_default-2-clause-effect
unfolding selector_with
selector-returns-in_default-2-clause-effect t c = grind arith

pub selector-returns-in_default-3-clause-effect : goal.selector-returns-in_default-3-clause-effect
unfolding selector_with
selector-returns-in_default-3-clause-effect t c = grind arith

pub index-returns-in-Ok-clause-effect : goal.index-returns-in-Ok-clause-effect
index-returns-in-Ok-clause-effect t c = index_told c.args.source.now.tokens.now c.args.context (several kinds.Comma (expr_at c.args.depth)) c.args.head c.args.slot c.in-Ok.count _ _ _ _ _ c.args.input c.in-Ok.here _ c.requires.slot c.advance.ensures.stage c.in-Ok.ensures.effect c.set_selector.ensures.stage c.expect_word.ensures.effect

pub index-returns-in-Err-clause-effect : goal.index-returns-in-Err-clause-effect
index-returns-in-Err-clause-effect t c = between_failed c.args.source.now.tokens.now constructs.Selector (word kinds.LeftBracket) (several kinds.Comma (expr_at c.args.depth)) (expect_at kinds.RightBracket) _ (remaining c.args.source.now.tokens.now c.args.input) c.in-Err.ensures.effect

pub call-returns-in-Ok-clause-effect : goal.call-returns-in-Ok-clause-effect
call-returns-in-Ok-clause-effect t c =
    call_told c.args.source.now.tokens.now c.args.context c.args.depth c.args.head c.args.slot _ _ _ _ _ _ c.args.input c.in-Ok.here _ c.requires.number c.requires.slot c.advance.ensures.stage c.in-Ok.ensures.effect c.sole_name-name.ensures c.set_selector.ensures.stage c.expect_word.ensures.effect

pub call-returns-in-Err-clause-effect : goal.call-returns-in-Err-clause-effect
call-returns-in-Err-clause-effect t c = between_failed c.args.source.now.tokens.now constructs.Selector (word kinds.LeftParen) (optional (unless kinds.RightParen) (several kinds.Comma (expr_at c.args.depth))) (expect_at kinds.RightParen) _ (remaining c.args.source.now.tokens.now c.args.input) c.in-Err.ensures.effect

pub arguments-returns-then-next_is-clause-effect : goal.arguments-returns-then-next_is-clause-effect
arguments-returns-then-next_is-clause-effect t c =
    told_absent c.args.source.now.tokens.now arguments_events (λ x. after (arguments_rows x) c.args.context) None (unless kinds.RightParen) _ _ c.args.input refl (λ s. after_nothing c.args.context s) (closed kinds.RightParen _ (sym c.next_is.ensures ∙ c.if-next_is.true))

pub arguments-returns-in-Ok-clause-effect : goal.arguments-returns-in-Ok-clause-effect
arguments-returns-in-Ok-clause-effect t c =
    some_arguments_told c.args.source.now.tokens.now c.args.context (several kinds.Comma (expr_at c.args.depth)) _ _ _ c.args.input c.in-Ok.here (not_closed kinds.RightParen _ (sym c.next_is.ensures ∙ c.if-next_is.false)) c.in-Ok.ensures.effect

pub arguments-returns-in-Err-clause-effect : goal.arguments-returns-in-Err-clause-effect
arguments-returns-in-Err-clause-effect t c =
    rw (not_closed kinds.RightParen (remaining c.args.source.now.tokens.now c.args.input) (sym c.next_is.ensures ∙ c.if-next_is.false)) (failed_prefixed c.args.source.now.tokens.now [] (several kinds.Comma (expr_at c.args.depth)) _ (remaining c.args.source.now.tokens.now c.args.input) c.in-Err.ensures.effect)

pub expression_list-more_expressions-requires : goal.expression_list-more_expressions-requires
expression_list-more_expressions-requires t c =
    let measure = c.decreases in (omega arith, (still_begun c.args.source.now.tokens.now c.args.context _ _ c.in-Ok.here _ c.requires.begun c.in-Ok.ensures.effect, c.in-Ok.ensures.number))

pub expression_list-returns-in-Ok-clause-effect : goal.expression_list-returns-in-Ok-clause-effect
expression_list-returns-in-Ok-clause-effect t c = list_told c.args.source.now.tokens.now c.args.context (expr_at c.args.depth) _ _ _ c.args.input c.in-Ok.here _ c.in-Ok.ensures.effect c.more_expressions.ensures.effect

pub expression_list-returns-in-Err-clause-effect : goal.expression_list-returns-in-Err-clause-effect
expression_list-returns-in-Err-clause-effect t c = several_failed c.args.source.now.tokens.now kinds.Comma (expr_at c.args.depth) _ (remaining c.args.source.now.tokens.now c.args.input) c.in-Err.ensures.effect

pub more_expressions-more-init : goal.more_expressions-more-init
more_expressions-more-init t c = (further_begun c.args.source.now.tokens.now (expr_at c.args.depth) c.args.context _ c.args.input, c.requires.number)

pub more_expressions-more-smaller : goal.more_expressions-more-smaller
more_expressions-more-smaller t c =
    listing_smaller c.args.source.now.tokens.now (accept_at kinds.Comma) (expr_at c.args.depth) expr_events (λ x. after (expr_rows x) c.args.context) (word kinds.Comma) (accept_advances c.args.depth kinds.Comma _ (expr_at_sound c.args.depth)) _ _ c.more.here c.in-Some.following c.in-Ok.next (sym c.accept.ensures.read ∙ ap (skipped c.args.source.now.tokens.now kinds.Comma) c.in-Some.is) c.in-Ok.ensures.effect

pub more_expressions-more-preserved : goal.more_expressions-more-preserved
more_expressions-more-preserved t c = (further_more c.args.source.now.tokens.now (expr_at c.args.depth) c.args.context c.more.count _ (accept_advances c.args.depth kinds.Comma _ (expr_at_sound c.args.depth)) _ _ _ _ c.args.input c.more.here c.in-Some.following c.in-Ok.next (sym c.accept.ensures.read ∙ ap (skipped c.args.source.now.tokens.now kinds.Comma) c.in-Some.is) c.more.invariant.0 c.advance.ensures.stage c.in-Ok.ensures.effect c.requires.begun (search (rules, arith)) c.saturating_add-count.ensures, c.in-Ok.ensures.number)

pub more_expressions-returns-in-Err-clause-effect : goal.more_expressions-returns-in-Err-clause-effect
more_expressions-returns-in-Err-clause-effect t c =
    listing_failed {X = Expr} c.args.source.now.tokens.now (accept_at kinds.Comma) (expr_at c.args.depth) (λ e. word kinds.Comma ++ expr_events e) (λ xs. after (each (λ e. both token (expr_rows e)) xs) c.args.context)
    (λ xs. suc (length xs) ≡ c.more.count) c.in-Err.stop (word kinds.Comma) (accept_advances c.args.depth kinds.Comma _ (expr_at_sound c.args.depth)) _ _ c.args.input c.more.here c.in-Some.following (sym c.accept.ensures.read ∙ ap (skipped c.args.source.now.tokens.now kinds.Comma) c.in-Some.is) c.more.invariant.0 c.in-Err.ensures.effect

pub more_expressions-returns-clause-effect : goal.more_expressions-returns-clause-effect
more_expressions-returns-clause-effect t c =
    further_done c.args.source.now.tokens.now (expr_at c.args.depth) c.args.context c.more.count (accept_advances c.args.depth kinds.Comma _ (expr_at_sound c.args.depth)) _ _ c.args.input c.more.here (sym c.accept.ensures.read ∙ ap (skipped c.args.source.now.tokens.now kinds.Comma) c.in_default.is) c.more.invariant.0
