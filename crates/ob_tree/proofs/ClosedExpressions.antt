-- A closed property of event sequences holds for expressions and designators.
use Rattle.std.proofs.Common.{◌++◌, Option, Some, None}
use Rattle.std.specs.declared.boxed.Box.{Box}
use Rattle.std.specs.declared.alloc.Global.{Global}
use Rattle.ob_scan.specs.declared.kind.Kind.TheVariants as kinds
use Rattle.ob_tree.specs.declared.expression.Relation.{Relation}
use Rattle.ob_tree.specs.declared.expression.Factor.TheShapes as shapes
use Rattle.ob_tree.specs.declared.expression.Factor.TheOpen as layers
use Rattle.ob_tree.specs.declared.expression.Designator.{Designator}
use Rattle.ob_tree.specs.declared.expression.Expr.{Expr}
use Rattle.ob_tree.specs.declared.expression.ExprList.{ExprList}
use Rattle.ob_tree.specs.declared.expression.SimpleExpression.{SimpleExpression}
use Rattle.ob_tree.specs.Constructs as constructs
use Rattle.ob_tree.specs.TreeEvents.{Events, word, if_present}
use Rattle.ob_tree.specs.Expressions.{relation_kind, sign_kind, add_kind, mul_kind, factor_events, selector_events, designator_events, element_events, element_list_events, expr_events, expr_list_events, sum_events, term_events}
use Rattle.ob_tree.proofs.ExpressionInduction.{With, ExpressionPredicates, ExpressionSteps, WithFactor, WithSelector, WithDesignator, WithElement, WithElementList, WithExpr, WithExprList, WithSum, WithTerm, factor_of, selector_of, designator_of, element_of, element_list_of, expr_of, expr_list_of, sum_of, term_of, designator_induction, expr_induction, expr_list_induction}
use Rattle.ob_tree.proofs.ExpressionLayers.{factor_shown, selector_shown, designator_shown, element_shown, element_list_shown, expr_list_shown, expr_shown, sum_shown, term_shown, factor_made, selector_made, designator_made, element_made, element_list_made, expr_made, expr_list_made, sum_made, term_made}
use Rattle.ob_tree.proofs.Closed.{IsClosed, closed-is, closed-both, closed-construct, closed-there, closed-map}

module _ (P : Events → Type 0) (closed : IsClosed P) where
  -- for each production

  abbrev predicates : ExpressionPredicates
  predicates = record {
    factor = λ t. P (factor_events t);
    selector = λ t. P (selector_events t);
    designator = λ t. P (designator_events t);
    element = λ t. P (element_events t);
    element_list = λ t. P (element_list_events t);
    expr = λ t. P (expr_events t);
    expr_list = λ t. P (expr_list_events t);
    sum = λ t. P (sum_events t);
    term = λ t. P (term_events t);
  }

  factor_held : (y : WithFactor predicates) → P (factor_shown (factor_of predicates y))
  factor_held (layers.Value k n) = closed.a_value k n
  factor_held layers.Nil = closed.a_word kinds.Nil
  factor_held layers.True = closed.a_word kinds.True
  factor_held layers.False = closed.a_word kinds.False
  factor_held (layers.Set None) = closed-both P closed (closed.a_word kinds.LeftBrace) (closed.a_word kinds.RightBrace)
  factor_held (layers.Set (Some l)) = closed-both P closed (closed.a_word kinds.LeftBrace) (closed-both P closed l.value.1 (closed.a_word kinds.RightBrace))
  factor_held (layers.Name d) = d.1
  factor_held (layers.Group e) = closed-both P closed (closed.a_word kinds.LeftParen) (closed-both P closed e.value.1 (closed.a_word kinds.RightParen))
  factor_held (layers.Not f) = closed-both P closed (closed.a_word kinds.Tilde) (closed-construct P closed constructs.Negated f.value.1)

  selector_held : (y : WithSelector predicates) → P (selector_shown (selector_of predicates y))
  selector_held (layers.Field n) = closed-both P closed (closed.a_word kinds.Dot) (closed.a_selection n)
  selector_held (layers.Index l) = closed-both P closed (closed.a_word kinds.LeftBracket) (closed-both P closed l.value.1 (closed.a_word kinds.RightBracket))
  selector_held layers.Target = closed.a_word kinds.Caret
  selector_held (layers.Arguments None) = closed-both P closed (closed.a_word kinds.LeftParen) (closed.a_word kinds.RightParen)
  selector_held (layers.Arguments (Some l)) = closed-both P closed (closed.a_word kinds.LeftParen) (closed-both P closed l.value.1 (closed.a_word kinds.RightParen))

  high_held : (o : Option (With predicates.expr)) → P (if_present (λ h. word kinds.DotDot ++ expr_events h) ((shapes.former-Element-high).map (With predicates.expr) Expr (λ e. e.0) o))
  high_held None = closed.nothing
  high_held (Some e) = closed-both P closed (closed.a_word kinds.DotDot) e.1

  compared_held : (o : Option (Relation × Box (With predicates.sum) Global)) → P (if_present (λ c. word (relation_kind c.0) ++ sum_events c.1.value) ((shapes.former-Expr-compared).map (With predicates.sum) SimpleExpression (λ e. e.0) o))
  compared_held None = closed.nothing
  compared_held (Some c) = closed-both P closed (closed.a_word (relation_kind c.0)) c.1.value.1

  element_held : (y : WithElement predicates) → P (element_shown (element_of predicates y))
  element_held y = closed-both P closed y.low.1 (high_held y.high)

  expr_held : (y : WithExpr predicates) → P (expr_shown (expr_of predicates y))
  expr_held y = closed-both P closed y.left.1 (compared_held y.compared)

  element_list_held : (y : WithElementList predicates) → P (element_list_shown (element_list_of predicates y))
  element_list_held y = closed-both P closed y.first.1 (closed-map P closed (λ e. word kinds.Comma ++ element_events e) _ y.rest.items (λ e. closed-both P closed (closed.a_word kinds.Comma) e.1))

  expr_list_held : (y : WithExprList predicates) → P (expr_list_shown (expr_list_of predicates y))
  expr_list_held y = closed-both P closed y.first.1 (closed-map P closed (λ e. word kinds.Comma ++ expr_events e) _ y.rest.items (λ e. closed-both P closed (closed.a_word kinds.Comma) e.1))

  sum_held : (y : WithSum predicates) → P (sum_shown (sum_of predicates y))
  sum_held y =
      closed-both P closed (closed-there P closed (λ x. word (sign_kind x)) y.sign (λ x. closed.a_word (sign_kind x)))
      (closed-both P closed y.first.1 (closed-map P closed (λ p. word (add_kind p.0) ++ term_events p.1) _ y.rest.items (λ p. closed-both P closed (closed.a_word (add_kind p.0)) p.1.1)))

  term_held : (y : WithTerm predicates) → P (term_shown (term_of predicates y))
  term_held y = closed-both P closed y.first.1 (closed-map P closed (λ p. word (mul_kind p.0) ++ factor_events p.1) _ y.rest.items (λ p. closed-both P closed (closed.a_word (mul_kind p.0)) p.1.1))

  designator_held : (y : WithDesignator predicates) → P (designator_shown (designator_of predicates y))
  designator_held y = closed-both P closed (closed.a_use y.head) (closed-map P closed selector_events _ y.selectors.items (λ s. s.1))

  -- ---- layer by layer

  steps : ExpressionSteps predicates
  steps = record {
    factor = λ y. closed-is P closed (factor_made _) (closed-construct P closed constructs.Factor (factor_held y));
    selector = λ y. closed-is P closed (selector_made _) (closed-construct P closed constructs.Selector (selector_held y));
    designator = λ y. closed-is P closed (designator_made _) (closed-construct P closed constructs.Designator (designator_held y));
    element = λ y. closed-is P closed (element_made _) (closed-construct P closed constructs.Element (element_held y));
    element_list = λ y. closed-is P closed (element_list_made _) (element_list_held y);
    expr = λ y. closed-is P closed (expr_made _) (closed-construct P closed constructs.Expression (expr_held y));
    expr_list = λ y. closed-is P closed (expr_list_made _) (expr_list_held y);
    sum = λ y. closed-is P closed (sum_made _) (closed-construct P closed constructs.SimpleExpression (sum_held y));
    term = λ y. closed-is P closed (term_made _) (closed-construct P closed constructs.Term (term_held y));
  }

  pub closed-expr : (t : Expr) → P (expr_events t)
  closed-expr = expr_induction predicates steps

  pub closed-designator : (t : Designator) → P (designator_events t)
  closed-designator = designator_induction predicates steps

  pub closed-expr_list : (t : ExprList) → P (expr_list_events t)
  closed-expr_list = expr_list_induction predicates steps
