-- The equations of the event sequences of expressions, layer by layer.
use Rattle.std.proofs.Common.{◌≡◌, ℕ, [], ◌∷◌, ◌++◌, Option, Some, None, refl, ap, ◌∙◌}
use Rattle.std.specs.declared.boxed.Box.{Box}
use Rattle.std.specs.declared.alloc.Global.{Global}
use Rattle.ob_scan.specs.declared.kind.Kind.TheVariants as kinds
use Rattle.ob_tree.specs.declared.expression.Relation.{Relation}
use Rattle.ob_tree.specs.declared.expression.AddOperator.{AddOperator}
use Rattle.ob_tree.specs.declared.expression.MulOperator.{MulOperator}
use Rattle.ob_tree.specs.declared.expression.Literal.{Literal}
use Rattle.ob_tree.specs.declared.expression.Factor.TheShapes as shapes
use Rattle.ob_tree.specs.declared.expression.Factor.TheOpen as layers
use Rattle.ob_tree.specs.declared.expression.Factor.TheVariants as factors
use Rattle.ob_tree.specs.declared.expression.Selector.TheVariants as selectors
use Rattle.ob_tree.specs.declared.expression.Factor.{Factor, fold_out-Factor, roll-Factor, out-Factor, out-roll-Factor, map-Factor}
use Rattle.ob_tree.specs.declared.expression.Selector.{Selector, fold_out-Selector, roll-Selector, out-Selector, out-roll-Selector, map-Selector}
use Rattle.ob_tree.specs.declared.expression.Designator.{Designator, fold_out-Designator, roll-Designator, out-roll-Designator}
use Rattle.ob_tree.specs.declared.expression.Element.{Element, fold_out-Element, roll-Element, out-Element, out-roll-Element}
use Rattle.ob_tree.specs.declared.expression.ElementList.{ElementList, fold_out-ElementList, roll-ElementList, out-ElementList, out-roll-ElementList}
use Rattle.ob_tree.specs.declared.expression.Expr.{Expr, fold_out-Expr, roll-Expr, out-Expr, out-roll-Expr}
use Rattle.ob_tree.specs.declared.expression.ExprList.{ExprList, fold_out-ExprList, roll-ExprList, out-ExprList, out-roll-ExprList}
use Rattle.ob_tree.specs.declared.expression.SimpleExpression.{SimpleExpression, fold_out-SimpleExpression, roll-SimpleExpression, out-SimpleExpression, out-roll-SimpleExpression}
use Rattle.ob_tree.specs.declared.expression.Term.{Term, fold_out-Term, roll-Term, out-roll-Term}
use Rattle.ob_tree.specs.Constructs as constructs
use Rattle.ob_tree.specs.TreeEvents.{Events, Value, construct, word, used, selected, if_present, each, each_after}
use Rattle.ob_tree.specs.Expressions.{relation_kind, sign_kind, add_kind, mul_kind, factor_events, selector_events, designator_events, element_events, element_list_events, expr_events, expr_list_events, sum_events, term_events, factor_step, selector_step, designator_step, element_step, element_list_step, expr_step, expr_list_step, sum_step, term_step}
use Rattle.ob_tree.proofs.Eaches.{each-map}
use Rattle.ob_tree.proofs.ExpressionInduction.{FactorLayer, SelectorLayer, DesignatorLayer, ElementLayer, ElementListLayer, ExprLayer, ExprListLayer, SumLayer, TermLayer}

-- optional children

there : (f : SimpleExpression → Events) (o : Option (Relation × Box SimpleExpression Global)) →
    if_present (λ c. word (relation_kind c.0) ++ c.1.value) ((shapes.former-Expr-compared).map SimpleExpression Events f o) ≡ if_present (λ c. word (relation_kind c.0) ++ f c.1.value) o
there f None = refl
there f (Some c) = refl

high_there : (f : Expr → Events) (o : Option Expr) →
    if_present (λ h. word kinds.DotDot ++ h) ((shapes.former-Element-high).map Expr Events f o) ≡ if_present (λ h. word kinds.DotDot ++ f h) o
high_there f None = refl
high_there f (Some c) = refl

-- each layer in which every child is replaced by its event sequence

abbrev pub factor_shown : FactorLayer → Events
factor_shown (layers.Value k n) = Value k n ∷ []
factor_shown layers.Nil = word kinds.Nil
factor_shown layers.True = word kinds.True
factor_shown layers.False = word kinds.False
factor_shown (layers.Set elements) = word kinds.LeftBrace ++ (if_present (λ l. element_list_events l.value) elements ++ word kinds.RightBrace)
factor_shown (layers.Name d) = designator_events d
factor_shown (layers.Group e) = word kinds.LeftParen ++ (expr_events e.value ++ word kinds.RightParen)
factor_shown (layers.Not f) = word kinds.Tilde ++ construct constructs.Negated (factor_events f.value)

abbrev pub selector_shown : SelectorLayer → Events
selector_shown (layers.Field n) = word kinds.Dot ++ selected n
selector_shown (layers.Index list) = word kinds.LeftBracket ++ (expr_list_events list.value ++ word kinds.RightBracket)
selector_shown layers.Target = word kinds.Caret
selector_shown (layers.Arguments list) = word kinds.LeftParen ++ (if_present (λ l. expr_list_events l.value) list ++ word kinds.RightParen)

abbrev pub element_shown : ElementLayer → Events
element_shown e = expr_events e.low ++ if_present (λ h. word kinds.DotDot ++ expr_events h) e.high

abbrev pub element_list_shown : ElementListLayer → Events
element_list_shown l = element_events l.first ++ each_after kinds.Comma element_events l.rest.items

abbrev pub expr_list_shown : ExprListLayer → Events
expr_list_shown l = expr_events l.first ++ each_after kinds.Comma expr_events l.rest.items

abbrev pub expr_shown : ExprLayer → Events
expr_shown e = sum_events e.left ++ if_present (λ c. word (relation_kind c.0) ++ sum_events c.1.value) e.compared

abbrev pub sum_shown : SumLayer → Events
sum_shown s = if_present (λ x. word (sign_kind x)) s.sign ++ (term_events s.first ++ each (λ p. word (add_kind p.0) ++ term_events p.1) s.rest.items)

abbrev pub term_shown : TermLayer → Events
term_shown t = factor_events t.first ++ each (λ p. word (mul_kind p.0) ++ factor_events p.1) t.rest.items

abbrev pub designator_shown : DesignatorLayer → Events
designator_shown d = used d.head ++ each selector_events d.selectors.items

-- the event sequence of a tree, from its layer

pub expr_out : (e : Expr) → expr_events e ≡ construct constructs.Expression (expr_shown (out-Expr e))
unfolding expr_events sum_events
expr_out e =
    fold_out-Expr Events Events Events Events Events Events Events Events Events factor_step selector_step designator_step element_step element_list_step expr_step expr_list_step sum_step term_step e ∙
    ap (λ (o : Events). construct constructs.Expression (sum_events (out-Expr e).left ++ o)) (there sum_events (out-Expr e).compared)

pub sum_out : (s : SimpleExpression) → sum_events s ≡ construct constructs.SimpleExpression (sum_shown (out-SimpleExpression s))
unfolding sum_events term_events
sum_out s =
    fold_out-SimpleExpression Events Events Events Events Events Events Events Events Events factor_step selector_step designator_step element_step element_list_step expr_step expr_list_step sum_step term_step s ∙
    ap (λ (o : Events). construct constructs.SimpleExpression (if_present (λ x. word (sign_kind x)) (out-SimpleExpression s).sign ++ (term_events (out-SimpleExpression s).first ++ o))) (each-map (λ (p : AddOperator × Events). word (add_kind p.0) ++ p.1) _ (out-SimpleExpression s).rest.items)

pub term_out : (t : Term) →
    term_events t ≡ construct constructs.Term (factor_events t.first ++ each (λ p. word (mul_kind p.0) ++ factor_events p.1) t.rest.items)
unfolding term_events factor_events
term_out t =
    fold_out-Term Events Events Events Events Events Events Events Events Events factor_step selector_step designator_step element_step element_list_step expr_step expr_list_step sum_step term_step t ∙
    ap (λ (o : Events). construct constructs.Term (factor_events t.first ++ o)) (each-map (λ (p : MulOperator × Events). word (mul_kind p.0) ++ p.1) _ t.rest.items)

pub element_out : (e : Element) → element_events e ≡ construct constructs.Element (element_shown (out-Element e))
unfolding element_events expr_events
element_out e =
    fold_out-Element Events Events Events Events Events Events Events Events Events factor_step selector_step designator_step element_step element_list_step expr_step expr_list_step sum_step term_step e ∙
    ap (λ (o : Events). construct constructs.Element (expr_events (out-Element e).low ++ o)) (high_there expr_events (out-Element e).high)

pub element_list_out : (l : ElementList) → element_list_events l ≡ element_list_shown (out-ElementList l)
unfolding element_list_events element_events
element_list_out l =
    fold_out-ElementList Events Events Events Events Events Events Events Events Events factor_step selector_step designator_step element_step element_list_step expr_step expr_list_step sum_step term_step l ∙
    ap (λ (o : Events). element_events (out-ElementList l).first ++ o) (each-map (λ (e : Events). word kinds.Comma ++ e) _ (out-ElementList l).rest.items)

pub expr_list_out : (l : ExprList) → expr_list_events l ≡ expr_list_shown (out-ExprList l)
unfolding expr_list_events expr_events
expr_list_out l =
    fold_out-ExprList Events Events Events Events Events Events Events Events Events factor_step selector_step designator_step element_step element_list_step expr_step expr_list_step sum_step term_step l ∙
    ap (λ (o : Events). expr_events (out-ExprList l).first ++ o) (each-map (λ (e : Events). word kinds.Comma ++ e) _ (out-ExprList l).rest.items)

pub designator_out : (d : Designator) →
    designator_events d ≡ construct constructs.Designator (used d.head ++ each selector_events d.selectors.items)
unfolding designator_events selector_events
designator_out d =
    fold_out-Designator Events Events Events Events Events Events Events Events Events factor_step selector_step designator_step element_step element_list_step expr_step expr_list_step sum_step term_step d ∙
    ap (λ (o : Events). construct constructs.Designator (used d.head ++ o)) (each-map (λ (s : Events). s) _ d.selectors.items)

factor_seen : (x : FactorLayer) →
    factor_step (map-Factor Factor Selector Designator Element ElementList Expr ExprList SimpleExpression Term Events Events Events Events Events Events Events Events Events
    factor_events selector_events designator_events element_events element_list_events expr_events expr_list_events sum_events term_events x) ≡ construct constructs.Factor (factor_shown x)
factor_seen (layers.Value k n) = refl
factor_seen layers.Nil = refl
factor_seen layers.True = refl
factor_seen layers.False = refl
factor_seen (layers.Set None) = refl
factor_seen (layers.Set (Some elements)) = refl
factor_seen (layers.Name d) = refl
factor_seen (layers.Group e) = refl
factor_seen (layers.Not f) = refl

pub factor_out : (f : Factor) → factor_events f ≡ construct constructs.Factor (factor_shown (out-Factor f))
unfolding factor_events selector_events designator_events element_events element_list_events expr_events expr_list_events sum_events term_events
factor_out f =
    fold_out-Factor Events Events Events Events Events Events Events Events Events factor_step selector_step designator_step element_step element_list_step expr_step expr_list_step sum_step term_step f ∙
    factor_seen (out-Factor f)

selector_seen : (x : SelectorLayer) →
    selector_step (map-Selector Factor Selector Designator Element ElementList Expr ExprList SimpleExpression Term Events Events Events Events Events Events Events Events Events
    factor_events selector_events designator_events element_events element_list_events expr_events expr_list_events sum_events term_events x) ≡ construct constructs.Selector (selector_shown x)
selector_seen (layers.Field n) = refl
selector_seen (layers.Index list) = refl
selector_seen layers.Target = refl
selector_seen (layers.Arguments None) = refl
selector_seen (layers.Arguments (Some list)) = refl

pub selector_out : (s : Selector) → selector_events s ≡ construct constructs.Selector (selector_shown (out-Selector s))
unfolding factor_events selector_events designator_events element_events element_list_events expr_events expr_list_events sum_events term_events
selector_out s =
    fold_out-Selector Events Events Events Events Events Events Events Events Events factor_step selector_step designator_step element_step element_list_step expr_step expr_list_step sum_step term_step s ∙
    selector_seen (out-Selector s)

-- the event sequence of a tree, from its children

pub factor_made : (x : FactorLayer) → factor_events (roll-Factor x) ≡ construct constructs.Factor (factor_shown x)
factor_made x = factor_out (roll-Factor x) ∙ ap (λ y. construct constructs.Factor (factor_shown y)) (out-roll-Factor x)

pub selector_made : (x : SelectorLayer) → selector_events (roll-Selector x) ≡ construct constructs.Selector (selector_shown x)
selector_made x = selector_out (roll-Selector x) ∙ ap (λ y. construct constructs.Selector (selector_shown y)) (out-roll-Selector x)

pub designator_made : (x : DesignatorLayer) → designator_events (roll-Designator x) ≡ construct constructs.Designator (designator_shown x)
designator_made x = designator_out (roll-Designator x) ∙ ap (λ y. construct constructs.Designator (designator_shown y)) (out-roll-Designator x)

pub term_made : (x : TermLayer) → term_events (roll-Term x) ≡ construct constructs.Term (term_shown x)
term_made x = term_out (roll-Term x) ∙ ap (λ y. construct constructs.Term (term_shown y)) (out-roll-Term x)

pub expr_made : (x : ExprLayer) →
    expr_events (roll-Expr x) ≡ construct constructs.Expression (expr_shown x)
expr_made x = expr_out (roll-Expr x) ∙ ap (λ y. construct constructs.Expression (expr_shown y)) (out-roll-Expr x)

pub sum_made : (x : SumLayer) →
    sum_events (roll-SimpleExpression x) ≡ construct constructs.SimpleExpression (sum_shown x)
sum_made x = sum_out (roll-SimpleExpression x) ∙ ap (λ y. construct constructs.SimpleExpression (sum_shown y)) (out-roll-SimpleExpression x)

pub element_made : (x : ElementLayer) →
    element_events (roll-Element x) ≡ construct constructs.Element (element_shown x)
element_made x = element_out (roll-Element x) ∙ ap (λ y. construct constructs.Element (element_shown y)) (out-roll-Element x)

pub element_list_made : (x : ElementListLayer) →
    element_list_events (roll-ElementList x) ≡ element_list_shown x
element_list_made x = element_list_out (roll-ElementList x) ∙ ap (λ y. element_list_shown y) (out-roll-ElementList x)

pub expr_list_made : (x : ExprListLayer) →
    expr_list_events (roll-ExprList x) ≡ expr_list_shown x
expr_list_made x = expr_list_out (roll-ExprList x) ∙ ap (λ y. expr_list_shown y) (out-roll-ExprList x)

factor_of : (f : Factor) (x : FactorLayer) → out-Factor f ≡ x →
    factor_events f ≡ construct constructs.Factor (factor_shown x)
factor_of f x e = factor_out f ∙ ap (λ y. construct constructs.Factor (factor_shown y)) e

pub value_made : (k : Literal) (n : ℕ) → factor_events (factors.Value k n) ≡ construct constructs.Factor (Value k n ∷ [])
value_made k n = factor_of _ _ (factors.outs-Value k n)

pub nil_made : factor_events factors.Nil ≡ construct constructs.Factor (word kinds.Nil)
nil_made = factor_of _ _ factors.outs-Nil

pub true_made : factor_events factors.True ≡ construct constructs.Factor (word kinds.True)
true_made = factor_of _ _ factors.outs-True

pub false_made : factor_events factors.False ≡ construct constructs.Factor (word kinds.False)
false_made = factor_of _ _ factors.outs-False

pub set_made : (o : Option (Box ElementList Global)) →
    factor_events (factors.Set o) ≡ construct constructs.Factor (word kinds.LeftBrace ++ (if_present (λ l. element_list_events l.value) o ++ word kinds.RightBrace))
set_made o = factor_of _ _ (factors.outs-Set o)

pub empty_set_made : factor_events (factors.Set None) ≡ construct constructs.Factor (word kinds.LeftBrace ++ word kinds.RightBrace)
empty_set_made = set_made None

pub full_set_made : (b : Box ElementList Global) →
    factor_events (factors.Set (Some b)) ≡ construct constructs.Factor (word kinds.LeftBrace ++ (element_list_events b.value ++ word kinds.RightBrace))
full_set_made b = set_made (Some b)

pub name_made : (d : Designator) → factor_events (factors.Name d) ≡ construct constructs.Factor (designator_events d)
name_made d = factor_of _ _ (factors.outs-Name d)

pub group_made : (b : Box Expr Global) →
    factor_events (factors.Group b) ≡ construct constructs.Factor (word kinds.LeftParen ++ (expr_events b.value ++ word kinds.RightParen))
group_made b = factor_of _ _ (factors.outs-Group b)

pub not_made : (b : Box Factor Global) →
    factor_events (factors.Not b) ≡ construct constructs.Factor (word kinds.Tilde ++ construct constructs.Negated (factor_events b.value))
not_made b = factor_of _ _ (factors.outs-Not b)

selector_of : (s : Selector) (x : SelectorLayer) → out-Selector s ≡ x →
    selector_events s ≡ construct constructs.Selector (selector_shown x)
selector_of s x e = selector_out s ∙ ap (λ y. construct constructs.Selector (selector_shown y)) e

pub field_made : (n : ℕ) → selector_events (selectors.Field n) ≡ construct constructs.Selector (word kinds.Dot ++ selected n)
field_made n = selector_of _ _ (selectors.outs-Field n)

pub index_made : (b : Box ExprList Global) →
    selector_events (selectors.Index b) ≡ construct constructs.Selector (word kinds.LeftBracket ++ (expr_list_events b.value ++ word kinds.RightBracket))
index_made b = selector_of _ _ (selectors.outs-Index b)

pub target_made : selector_events selectors.Target ≡ construct constructs.Selector (word kinds.Caret)
target_made = selector_of _ _ selectors.outs-Target

pub arguments_made : (o : Option (Box ExprList Global)) →
    selector_events (selectors.Arguments o) ≡ construct constructs.Selector (word kinds.LeftParen ++ (if_present (λ l. expr_list_events l.value) o ++ word kinds.RightParen))
arguments_made o = selector_of _ _ (selectors.outs-Arguments o)

pub no_arguments_made : selector_events (selectors.Arguments None) ≡ construct constructs.Selector (word kinds.LeftParen ++ word kinds.RightParen)
no_arguments_made = arguments_made None

pub some_arguments_made : (b : Box ExprList Global) →
    selector_events (selectors.Arguments (Some b)) ≡ construct constructs.Selector (word kinds.LeftParen ++ (expr_list_events b.value ++ word kinds.RightParen))
some_arguments_made b = arguments_made (Some b)

pub ruleset factors_made = (value_made, nil_made, true_made, false_made, set_made, empty_set_made, full_set_made, name_made, group_made, not_made)

pub ruleset selectors_made = (field_made, index_made, target_made, arguments_made, no_arguments_made, some_arguments_made)

pub ruleset expressions_made = (expr_made, sum_made, term_out, element_made, element_list_made, expr_list_made, designator_out, factors_made, selectors_made)
