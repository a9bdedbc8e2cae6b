-- A compatible relation holds of the piece of each expression and its event sequence.
use Rattle.std.proofs.Common.{◌≡◌, ℕ, Bool, false, ◌++◌, Option, Some, None, refl}
use Rattle.std.specs.declared.boxed.Box.{Box}
use Rattle.std.specs.declared.alloc.Global.{Global}
use Rattle.ob_scan.specs.declared.kind.Kind.TheVariants as kinds
use Rattle.ob_tree.specs.declared.expression.Relation.{Relation}
use Rattle.ob_tree.specs.declared.expression.Factor.TheShapes as shapes
use Rattle.ob_tree.specs.declared.expression.Factor.TheOpen as layers
use Rattle.ob_tree.specs.declared.expression.Designator.{Designator}
use Rattle.ob_tree.specs.declared.expression.Expr.{Expr}
use Rattle.ob_tree.specs.declared.expression.SimpleExpression.{SimpleExpression}
use Rattle.ob_tree.specs.Constructs as constructs
use Rattle.ob_tree.specs.TreeEvents.{Events, construct, word, if_present}
use Rattle.ob_tree.specs.Expressions.{relation_kind, sign_kind, add_kind, mul_kind, factor_events, designator_events, element_events, element_list_events, expr_events, expr_list_events, sum_events, term_events}
use Rattle.ob_tree.proofs.ExpressionInduction.{With, ExpressionPredicates, ExpressionSteps, WithFactor, WithSelector, WithDesignator, WithElement, WithElementList, WithExpr, WithExprList, WithSum, WithTerm, factor_of, selector_of, designator_of, element_of, element_list_of, expr_of, expr_list_of, sum_of, term_of, designator_induction, expr_induction}
use Rattle.ob_tree.proofs.ExpressionLayers.{factor_shown, selector_shown, designator_shown, element_shown, element_list_shown, expr_shown, expr_list_shown, sum_shown, term_shown, factor_made, selector_made, designator_made, element_made, element_list_made, expr_made, expr_list_made, sum_made, term_made}
use Rattle.module_table.specs.declared.rows.Step.TheVariants as steps_of
use Rattle.module_table.specs.Parts.{Fragment, token, both}
use Rattle.module_table.specs.Parts.{if_present as there}
use Rattle.table_rules.specs.Expressions.{SelectorPhrase, factor_rows, designator_rows, element_rows, element_list_rows, expr_rows, expr_list_rows, sum_rows, term_rows}
use Rattle.table_rules.proofs.ExpressionLayers as told
use Rattle.table_rules.proofs.Compatible.{IsCompatible, IsSelector, c-there, c-map, related-is}

module _ {R : Fragment → Events → Type 0} {S : SelectorPhrase → Events → Type 0} (c : IsCompatible R S) where
  -- of each production

  abbrev predicates : ExpressionPredicates
  predicates = record {
    factor = λ t. R (factor_rows t) (factor_events t);
    selector = IsSelector S;
    designator = λ t. (w : Bool) → R (designator_rows w t) (designator_events t);
    element = λ t. R (element_rows t) (element_events t);
    element_list = λ t. R (element_list_rows t) (element_list_events t);
    expr = λ t. R (expr_rows t) (expr_events t);
    expr_list = λ t. R (expr_list_rows t) (expr_list_events t);
    sum = λ t. R (sum_rows t) (sum_events t);
    term = λ t. R (term_rows t) (term_events t);
  }

  factor_held : (y : WithFactor predicates) → R (told.factor_shown (factor_of predicates y)).piece (factor_shown (factor_of predicates y))
  factor_held (layers.Value k n) = c.a_value k n
  factor_held layers.Nil = c.a_word kinds.Nil
  factor_held layers.True = c.a_word kinds.True
  factor_held layers.False = c.a_word kinds.False
  factor_held (layers.Set None) = c.one_after (c.a_word kinds.LeftBrace) (c.one_after c.nothing (c.a_word kinds.RightBrace))
  factor_held (layers.Set (Some l)) = c.one_after (c.a_word kinds.LeftBrace) (c.one_after l.value.1 (c.a_word kinds.RightBrace))
  factor_held (layers.Name d) = d.1 false
  factor_held (layers.Group e) = c.one_after (c.a_word kinds.LeftParen) (c.one_after e.value.1 (c.a_word kinds.RightParen))
  factor_held (layers.Not f) = c.one_after (c.a_word kinds.Tilde) (c.held constructs.Negated f.value.1)

  -- a selector that is no field
  other : (s : SelectorPhrase) {o : Events} → s.name ≡ None → ((k n : ℕ) → s.step k ≡ steps_of.Field n → ⊥) → R s.piece o → S s (construct constructs.Selector o)
  other s {o} name step f = c.a_selector s (record { name = name; step = step }) (c.held constructs.Selector f)

  selector_held : (y : WithSelector predicates) → S (told.selector_shown (selector_of predicates y)) (construct constructs.Selector (selector_shown (selector_of predicates y)))
  selector_held (layers.Field n) = c.a_field n
  selector_held (layers.Index l) = other _ refl (λ k n e. cc) (c.one_after (c.a_word kinds.LeftBracket) (c.one_after l.value.1 (c.a_word kinds.RightBracket)))
  selector_held layers.Target = other _ refl (λ k n e. cc) (c.a_word kinds.Caret)
  selector_held (layers.Arguments None) = other _ refl (λ k n e. cc) (c.one_after (c.a_word kinds.LeftParen) (c.one_after c.nothing (c.a_word kinds.RightParen)))
  selector_held (layers.Arguments (Some l)) = other _ refl (λ k n e. cc) (c.one_after (c.a_word kinds.LeftParen) (c.one_after l.value.1 (c.a_word kinds.RightParen)))

  high_held : (o : Option (With predicates.expr)) → R (there (λ h. both token (expr_rows h)) ((shapes.former-Element-high).map (With predicates.expr) Expr (λ e. e.0) o))
      (if_present (λ h. word kinds.DotDot ++ expr_events h) ((shapes.former-Element-high).map (With predicates.expr) Expr (λ e. e.0) o))
  high_held None = c.nothing
  high_held (Some e) = c.one_after (c.a_word kinds.DotDot) e.1

  compared_held : (o : Option (Relation × Box (With predicates.sum) Global)) →
      R (there (λ x. both token (sum_rows x.1.value)) ((shapes.former-Expr-compared).map (With predicates.sum) SimpleExpression (λ e. e.0) o))
      (if_present (λ x. word (relation_kind x.0) ++ sum_events x.1.value) ((shapes.former-Expr-compared).map (With predicates.sum) SimpleExpression (λ e. e.0) o))
  compared_held None = c.nothing
  compared_held (Some x) = c.one_after (c.a_word (relation_kind x.0)) x.1.value.1

  element_held : (y : WithElement predicates) → R (told.element_shown (element_of predicates y)) (element_shown (element_of predicates y))
  element_held y = c.one_after y.low.1 (high_held y.high)

  expr_held : (y : WithExpr predicates) → R (told.expr_shown (expr_of predicates y)) (expr_shown (expr_of predicates y))
  expr_held y = c.one_after y.left.1 (compared_held y.compared)

  element_list_held : (y : WithElementList predicates) → R (told.element_list_shown (element_list_of predicates y)) (element_list_shown (element_list_of predicates y))
  element_list_held y =
      c.one_after y.first.1
      (c-map c (λ e. both token (element_rows e)) (λ e. word kinds.Comma ++ element_events e) _ y.rest.items (λ e. c.one_after (c.a_word kinds.Comma) e.1))

  expr_list_held : (y : WithExprList predicates) → R (told.expr_list_shown (expr_list_of predicates y)) (expr_list_shown (expr_list_of predicates y))
  expr_list_held y =
      c.one_after y.first.1
      (c-map c (λ e. both token (expr_rows e)) (λ e. word kinds.Comma ++ expr_events e) _ y.rest.items (λ e. c.one_after (c.a_word kinds.Comma) e.1))

  sum_held : (y : WithSum predicates) → R (told.sum_shown (sum_of predicates y)) (sum_shown (sum_of predicates y))
  sum_held y =
      c.one_after (c-there c (λ x. token) (λ x. word (sign_kind x)) y.sign (λ x. c.a_word (sign_kind x)))
      (c.one_after y.first.1
      (c-map c (λ p. both token (term_rows p.1)) (λ p. word (add_kind p.0) ++ term_events p.1) _ y.rest.items (λ p. c.one_after (c.a_word (add_kind p.0)) p.1.1)))

  term_held : (y : WithTerm predicates) → R (told.term_shown (term_of predicates y)) (term_shown (term_of predicates y))
  term_held y =
      c.one_after y.first.1
      (c-map c (λ p. both token (factor_rows p.1)) (λ p. word (mul_kind p.0) ++ factor_events p.1) _ y.rest.items (λ p. c.one_after (c.a_word (mul_kind p.0)) p.1.1))

  designator_held : (w : Bool) (y : WithDesignator predicates) → R (told.designator_shown w (designator_of predicates y)) (designator_shown (designator_of predicates y))
  designator_held w y = c.a_designator w y.head y.selectors.items

  -- ---- layer by layer

  steps : ExpressionSteps predicates
  steps = record {
    factor = λ y. related-is R (told.factor_made _) (factor_made _) (c.held constructs.Factor (factor_held y));
    selector = λ y. related-is S (told.selector_made _) (selector_made _) (selector_held y);
    designator = λ y w. related-is R (told.designator_made w _) (designator_made _) (c.held constructs.Designator (designator_held w y));
    element = λ y. related-is R (told.element_made _) (element_made _) (c.held constructs.Element (element_held y));
    element_list = λ y. related-is R (told.element_list_made _) (element_list_made _) (element_list_held y);
    expr = λ y. related-is R (told.expr_made _) (expr_made _) (c.held constructs.Expression (expr_held y));
    expr_list = λ y. related-is R (told.expr_list_made _) (expr_list_made _) (expr_list_held y);
    sum = λ y. related-is R (told.sum_made _) (sum_made _) (c.held constructs.SimpleExpression (sum_held y));
    term = λ y. related-is R (told.term_made _) (term_made _) (c.held constructs.Term (term_held y));
  }

  pub c-expr : (t : Expr) → R (expr_rows t) (expr_events t)
  c-expr = expr_induction predicates steps

  pub c-designator : (t : Designator) (w : Bool) → R (designator_rows w t) (designator_events t)
  c-designator = designator_induction predicates steps
