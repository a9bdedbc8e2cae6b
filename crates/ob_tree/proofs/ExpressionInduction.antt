-- One induction over the productions of expressions, for whatever is shown of the trees of each of them.
use Rattle.std.proofs.Common.{◌≡◌, subst}
use Rattle.ob_tree.specs.declared.expression.Factor.{Factor, Factor-F, roll-Factor, map-Factor}
use Rattle.ob_tree.specs.declared.expression.Selector.{Selector, Selector-F, roll-Selector, map-Selector}
use Rattle.ob_tree.specs.declared.expression.Designator.{Designator, Designator-F, roll-Designator, ind-Designator, map-Designator}
use Rattle.ob_tree.specs.declared.expression.Element.{Element, Element-F, roll-Element, map-Element}
use Rattle.ob_tree.specs.declared.expression.ElementList.{ElementList, ElementList-F, roll-ElementList, map-ElementList}
use Rattle.ob_tree.specs.declared.expression.Expr.{Expr, Expr-F, roll-Expr, ind-Expr, map-Expr}
use Rattle.ob_tree.specs.declared.expression.ExprList.{ExprList, ExprList-F, roll-ExprList, ind-ExprList, map-ExprList}
use Rattle.ob_tree.specs.declared.expression.SimpleExpression.{SimpleExpression, SimpleExpression-F, roll-SimpleExpression, map-SimpleExpression}
use Rattle.ob_tree.specs.declared.expression.Term.{Term, Term-F, roll-Term, map-Term}

-- a tree with what is shown of it
abbrev pub With : {X : Type 0} → (X → Type 0) → Type 0
With {X} Q = (x : X) × Q x

-- what is shown of the trees of each production
pub record ExpressionPredicates : Type 1 where
  pub factor : Factor → Type 0
  pub selector : Selector → Type 0
  pub designator : Designator → Type 0
  pub element : Element → Type 0
  pub element_list : ElementList → Type 0
  pub expr : Expr → Type 0
  pub expr_list : ExprList → Type 0
  pub sum : SimpleExpression → Type 0
  pub term : Term → Type 0

-- a layer, with a tree for each child

abbrev pub FactorLayer : Type 0
FactorLayer = Factor-F Factor Selector Designator Element ElementList Expr ExprList SimpleExpression Term

abbrev pub SelectorLayer : Type 0
SelectorLayer = Selector-F Factor Selector Designator Element ElementList Expr ExprList SimpleExpression Term

abbrev pub DesignatorLayer : Type 0
DesignatorLayer = Designator-F Factor Selector Designator Element ElementList Expr ExprList SimpleExpression Term

abbrev pub ElementLayer : Type 0
ElementLayer = Element-F Factor Selector Designator Element ElementList Expr ExprList SimpleExpression Term

abbrev pub ElementListLayer : Type 0
ElementListLayer = ElementList-F Factor Selector Designator Element ElementList Expr ExprList SimpleExpression Term

abbrev pub ExprLayer : Type 0
ExprLayer = Expr-F Factor Selector Designator Element ElementList Expr ExprList SimpleExpression Term

abbrev pub ExprListLayer : Type 0
ExprListLayer = ExprList-F Factor Selector Designator Element ElementList Expr ExprList SimpleExpression Term

abbrev pub SumLayer : Type 0
SumLayer = SimpleExpression-F Factor Selector Designator Element ElementList Expr ExprList SimpleExpression Term

abbrev pub TermLayer : Type 0
TermLayer = Term-F Factor Selector Designator Element ElementList Expr ExprList SimpleExpression Term

-- a layer whose children carry their proofs, and the layer without them

abbrev pub WithFactor : ExpressionPredicates → Type 0
WithFactor F = Factor-F (With F.factor) (With F.selector) (With F.designator) (With F.element) (With F.element_list) (With F.expr) (With F.expr_list) (With F.sum) (With F.term)

abbrev pub factor_of : (F : ExpressionPredicates) → WithFactor F → FactorLayer
factor_of F =
    map-Factor (With F.factor) (With F.selector) (With F.designator) (With F.element) (With F.element_list) (With F.expr) (With F.expr_list) (With F.sum) (With F.term)
    Factor Selector Designator Element ElementList Expr ExprList SimpleExpression Term
    (λ e. e.0) (λ e. e.0) (λ e. e.0) (λ e. e.0) (λ e. e.0) (λ e. e.0) (λ e. e.0) (λ e. e.0) (λ e. e.0)

abbrev pub WithSelector : ExpressionPredicates → Type 0
WithSelector F = Selector-F (With F.factor) (With F.selector) (With F.designator) (With F.element) (With F.element_list) (With F.expr) (With F.expr_list) (With F.sum) (With F.term)

abbrev pub selector_of : (F : ExpressionPredicates) → WithSelector F → SelectorLayer
selector_of F =
    map-Selector (With F.factor) (With F.selector) (With F.designator) (With F.element) (With F.element_list) (With F.expr) (With F.expr_list) (With F.sum) (With F.term)
    Factor Selector Designator Element ElementList Expr ExprList SimpleExpression Term
    (λ e. e.0) (λ e. e.0) (λ e. e.0) (λ e. e.0) (λ e. e.0) (λ e. e.0) (λ e. e.0) (λ e. e.0) (λ e. e.0)

abbrev pub WithDesignator : ExpressionPredicates → Type 0
WithDesignator F = Designator-F (With F.factor) (With F.selector) (With F.designator) (With F.element) (With F.element_list) (With F.expr) (With F.expr_list) (With F.sum) (With F.term)

abbrev pub designator_of : (F : ExpressionPredicates) → WithDesignator F → DesignatorLayer
designator_of F =
    map-Designator (With F.factor) (With F.selector) (With F.designator) (With F.element) (With F.element_list) (With F.expr) (With F.expr_list) (With F.sum) (With F.term)
    Factor Selector Designator Element ElementList Expr ExprList SimpleExpression Term
    (λ e. e.0) (λ e. e.0) (λ e. e.0) (λ e. e.0) (λ e. e.0) (λ e. e.0) (λ e. e.0) (λ e. e.0) (λ e. e.0)

abbrev pub WithElement : ExpressionPredicates → Type 0
WithElement F = Element-F (With F.factor) (With F.selector) (With F.designator) (With F.element) (With F.element_list) (With F.expr) (With F.expr_list) (With F.sum) (With F.term)

abbrev pub element_of : (F : ExpressionPredicates) → WithElement F → ElementLayer
element_of F =
    map-Element (With F.factor) (With F.selector) (With F.designator) (With F.element) (With F.element_list) (With F.expr) (With F.expr_list) (With F.sum) (With F.term)
    Factor Selector Designator Element ElementList Expr ExprList SimpleExpression Term
    (λ e. e.0) (λ e. e.0) (λ e. e.0) (λ e. e.0) (λ e. e.0) (λ e. e.0) (λ e. e.0) (λ e. e.0) (λ e. e.0)

abbrev pub WithElementList : ExpressionPredicates → Type 0
WithElementList F = ElementList-F (With F.factor) (With F.selector) (With F.designator) (With F.element) (With F.element_list) (With F.expr) (With F.expr_list) (With F.sum) (With F.term)

abbrev pub element_list_of : (F : ExpressionPredicates) → WithElementList F → ElementListLayer
element_list_of F =
    map-ElementList (With F.factor) (With F.selector) (With F.designator) (With F.element) (With F.element_list) (With F.expr) (With F.expr_list) (With F.sum) (With F.term)
    Factor Selector Designator Element ElementList Expr ExprList SimpleExpression Term
    (λ e. e.0) (λ e. e.0) (λ e. e.0) (λ e. e.0) (λ e. e.0) (λ e. e.0) (λ e. e.0) (λ e. e.0) (λ e. e.0)

abbrev pub WithExpr : ExpressionPredicates → Type 0
WithExpr F = Expr-F (With F.factor) (With F.selector) (With F.designator) (With F.element) (With F.element_list) (With F.expr) (With F.expr_list) (With F.sum) (With F.term)

abbrev pub expr_of : (F : ExpressionPredicates) → WithExpr F → ExprLayer
expr_of F =
    map-Expr (With F.factor) (With F.selector) (With F.designator) (With F.element) (With F.element_list) (With F.expr) (With F.expr_list) (With F.sum) (With F.term)
    Factor Selector Designator Element ElementList Expr ExprList SimpleExpression Term
    (λ e. e.0) (λ e. e.0) (λ e. e.0) (λ e. e.0) (λ e. e.0) (λ e. e.0) (λ e. e.0) (λ e. e.0) (λ e. e.0)

abbrev pub WithExprList : ExpressionPredicates → Type 0
WithExprList F = ExprList-F (With F.factor) (With F.selector) (With F.designator) (With F.element) (With F.element_list) (With F.expr) (With F.expr_list) (With F.sum) (With F.term)

abbrev pub expr_list_of : (F : ExpressionPredicates) → WithExprList F → ExprListLayer
expr_list_of F =
    map-ExprList (With F.factor) (With F.selector) (With F.designator) (With F.element) (With F.element_list) (With F.expr) (With F.expr_list) (With F.sum) (With F.term)
    Factor Selector Designator Element ElementList Expr ExprList SimpleExpression Term
    (λ e. e.0) (λ e. e.0) (λ e. e.0) (λ e. e.0) (λ e. e.0) (λ e. e.0) (λ e. e.0) (λ e. e.0) (λ e. e.0)

abbrev pub WithSum : ExpressionPredicates → Type 0
WithSum F = SimpleExpression-F (With F.factor) (With F.selector) (With F.designator) (With F.element) (With F.element_list) (With F.expr) (With F.expr_list) (With F.sum) (With F.term)

abbrev pub sum_of : (F : ExpressionPredicates) → WithSum F → SumLayer
sum_of F =
    map-SimpleExpression (With F.factor) (With F.selector) (With F.designator) (With F.element) (With F.element_list) (With F.expr) (With F.expr_list) (With F.sum) (With F.term)
    Factor Selector Designator Element ElementList Expr ExprList SimpleExpression Term
    (λ e. e.0) (λ e. e.0) (λ e. e.0) (λ e. e.0) (λ e. e.0) (λ e. e.0) (λ e. e.0) (λ e. e.0) (λ e. e.0)

abbrev pub WithTerm : ExpressionPredicates → Type 0
WithTerm F = Term-F (With F.factor) (With F.selector) (With F.designator) (With F.element) (With F.element_list) (With F.expr) (With F.expr_list) (With F.sum) (With F.term)

abbrev pub term_of : (F : ExpressionPredicates) → WithTerm F → TermLayer
term_of F =
    map-Term (With F.factor) (With F.selector) (With F.designator) (With F.element) (With F.element_list) (With F.expr) (With F.expr_list) (With F.sum) (With F.term)
    Factor Selector Designator Element ElementList Expr ExprList SimpleExpression Term
    (λ e. e.0) (λ e. e.0) (λ e. e.0) (λ e. e.0) (λ e. e.0) (λ e. e.0) (λ e. e.0) (λ e. e.0) (λ e. e.0)

-- the induction step of each production: from the children to the tree
pub record ExpressionSteps (F : ExpressionPredicates) : Type 0 where
  pub factor : (y : WithFactor F) → F.factor (roll-Factor (factor_of F y))
  pub selector : (y : WithSelector F) → F.selector (roll-Selector (selector_of F y))
  pub designator : (y : WithDesignator F) → F.designator (roll-Designator (designator_of F y))
  pub element : (y : WithElement F) → F.element (roll-Element (element_of F y))
  pub element_list : (y : WithElementList F) → F.element_list (roll-ElementList (element_list_of F y))
  pub expr : (y : WithExpr F) → F.expr (roll-Expr (expr_of F y))
  pub expr_list : (y : WithExprList F) → F.expr_list (roll-ExprList (expr_list_of F y))
  pub sum : (y : WithSum F) → F.sum (roll-SimpleExpression (sum_of F y))
  pub term : (y : WithTerm F) → F.term (roll-Term (term_of F y))

module _ (F : ExpressionPredicates) (steps : ExpressionSteps F) where
  factor_step : (x : FactorLayer) (y : WithFactor F) → factor_of F y ≡ x → F.factor (roll-Factor x)
  factor_step x y is = subst (λ (z : FactorLayer). F.factor (roll-Factor z)) is (steps.factor y)

  selector_step : (x : SelectorLayer) (y : WithSelector F) → selector_of F y ≡ x → F.selector (roll-Selector x)
  selector_step x y is = subst (λ (z : SelectorLayer). F.selector (roll-Selector z)) is (steps.selector y)

  designator_step : (x : DesignatorLayer) (y : WithDesignator F) → designator_of F y ≡ x → F.designator (roll-Designator x)
  designator_step x y is = subst (λ (z : DesignatorLayer). F.designator (roll-Designator z)) is (steps.designator y)

  element_step : (x : ElementLayer) (y : WithElement F) → element_of F y ≡ x → F.element (roll-Element x)
  element_step x y is = subst (λ (z : ElementLayer). F.element (roll-Element z)) is (steps.element y)

  element_list_step : (x : ElementListLayer) (y : WithElementList F) → element_list_of F y ≡ x → F.element_list (roll-ElementList x)
  element_list_step x y is = subst (λ (z : ElementListLayer). F.element_list (roll-ElementList z)) is (steps.element_list y)

  expr_step : (x : ExprLayer) (y : WithExpr F) → expr_of F y ≡ x → F.expr (roll-Expr x)
  expr_step x y is = subst (λ (z : ExprLayer). F.expr (roll-Expr z)) is (steps.expr y)

  expr_list_step : (x : ExprListLayer) (y : WithExprList F) → expr_list_of F y ≡ x → F.expr_list (roll-ExprList x)
  expr_list_step x y is = subst (λ (z : ExprListLayer). F.expr_list (roll-ExprList z)) is (steps.expr_list y)

  sum_step : (x : SumLayer) (y : WithSum F) → sum_of F y ≡ x → F.sum (roll-SimpleExpression x)
  sum_step x y is = subst (λ (z : SumLayer). F.sum (roll-SimpleExpression z)) is (steps.sum y)

  term_step : (x : TermLayer) (y : WithTerm F) → term_of F y ≡ x → F.term (roll-Term x)
  term_step x y is = subst (λ (z : TermLayer). F.term (roll-Term z)) is (steps.term y)

  pub designator_induction : (t : Designator) → F.designator t
  designator_induction =
      ind-Designator F.factor F.selector F.designator F.element F.element_list F.expr F.expr_list F.sum F.term
      factor_step selector_step designator_step element_step element_list_step expr_step expr_list_step sum_step term_step

  pub expr_induction : (t : Expr) → F.expr t
  expr_induction =
      ind-Expr F.factor F.selector F.designator F.element F.element_list F.expr F.expr_list F.sum F.term
      factor_step selector_step designator_step element_step element_list_step expr_step expr_list_step sum_step term_step

  pub expr_list_induction : (t : ExprList) → F.expr_list t
  expr_list_induction =
      ind-ExprList F.factor F.selector F.designator F.element F.element_list F.expr F.expr_list F.sum F.term
      factor_step selector_step designator_step element_step element_list_step expr_step expr_list_step sum_step term_step
