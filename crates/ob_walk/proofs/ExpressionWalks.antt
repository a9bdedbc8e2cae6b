-- The items of expressions, from those of their children.
use Rattle.std.proofs.Common.{◌≡◌, ℕ, [], ◌∷◌, ◌++◌, Option, refl}
use Rattle.std.specs.declared.boxed.Box.{Box}
use Rattle.std.specs.declared.alloc.Global.{Global}
use Rattle.ob_scan.specs.declared.kind.Kind.TheVariants as kinds
use Rattle.ob_walk.specs.declared.item.Item.TheVariants as items
use Rattle.ob_tree.specs.declared.role.Role.TheVariants as roles
use Rattle.ob_tree.specs.declared.expression.Literal.{Literal}
use Rattle.ob_tree.specs.declared.expression.Factor.{Factor}
use Rattle.ob_tree.specs.declared.expression.Factor.TheVariants as factors
use Rattle.ob_tree.specs.declared.expression.Selector.TheVariants as selectors
use Rattle.ob_tree.specs.declared.expression.Designator.{Designator}
use Rattle.ob_tree.specs.declared.expression.Element.{Element, out-Element}
use Rattle.ob_tree.specs.declared.expression.ElementList.{ElementList, out-ElementList}
use Rattle.ob_tree.specs.declared.expression.Expr.{Expr, out-Expr}
use Rattle.ob_tree.specs.declared.expression.ExprList.{ExprList, out-ExprList}
use Rattle.ob_tree.specs.declared.expression.SimpleExpression.{SimpleExpression, out-SimpleExpression}
use Rattle.ob_tree.specs.declared.expression.Term.{Term}
use Rattle.ob_tree.specs.TreeEvents.{word, if_present, each, each_after}
use Rattle.ob_walk.specs.Items.{items_of}
use Rattle.ob_tree.specs.Expressions.{relation_kind, sign_kind, add_kind, mul_kind, factor_events, selector_events, designator_events, element_events, element_list_events, expr_events, expr_list_events, sum_events, term_events}
use Rattle.ob_tree.proofs.ExpressionLayers.{expr_out, sum_out, term_out, element_out, element_list_out, expr_list_out, designator_out, value_made, nil_made, true_made, false_made, set_made, name_made, group_made, not_made, field_made, index_made, target_made, arguments_made}
use Rattle.ob_walk.proofs.Walks.{items-append, items-construct, walks}

pub expr_items : (e : Expr) → items_of (expr_events e) ≡
    items_of (sum_events (out-Expr e).left) ++ items_of (if_present (λ c. word (relation_kind c.0) ++ sum_events c.1.value) (out-Expr e).compared)
expr_items e = simp (expr_out e, items-construct, items-append)

pub sum_items : (s : SimpleExpression) → items_of (sum_events s) ≡
    items_of (if_present (λ x. word (sign_kind x)) (out-SimpleExpression s).sign) ++ (items_of (term_events (out-SimpleExpression s).first) ++ items_of (each (λ p. word (add_kind p.0) ++ term_events p.1) (out-SimpleExpression s).rest.items))
sum_items s = simp (sum_out s, items-construct, items-append)

pub term_items : (t : Term) → items_of (term_events t) ≡
    items_of (factor_events t.first) ++ items_of (each (λ p. word (mul_kind p.0) ++ factor_events p.1) t.rest.items)
term_items t = rw (term_out t, items-construct, items-append) refl

pub element_items : (e : Element) → items_of (element_events e) ≡
    items_of (expr_events (out-Element e).low) ++ items_of (if_present (λ h. word kinds.DotDot ++ expr_events h) (out-Element e).high)
element_items e = rw (element_out e, items-construct, items-append) refl

pub element_list_items : (l : ElementList) → items_of (element_list_events l) ≡
    items_of (element_events (out-ElementList l).first) ++ items_of (each_after kinds.Comma element_events (out-ElementList l).rest.items)
element_list_items l = rw (element_list_out l, items-append) refl

pub expr_list_items : (l : ExprList) → items_of (expr_list_events l) ≡
    items_of (expr_events (out-ExprList l).first) ++ items_of (each_after kinds.Comma expr_events (out-ExprList l).rest.items)
expr_list_items l = rw (expr_list_out l, items-append) refl

pub designator_items : (d : Designator) → items_of (designator_events d) ≡ items.Identifier roles.Uses d.head ∷ items_of (each selector_events d.selectors.items)
designator_items d = rw (designator_out d, items-construct) refl

pub value_items : (k : Literal) (n : ℕ) → items_of (factor_events (factors.Value k n)) ≡ items.Value n ∷ []
value_items k n = rw (value_made k n, items-construct) refl

pub nil_items : items_of (factor_events factors.Nil) ≡ items.Word ∷ []
nil_items = rw (nil_made, items-construct) refl

pub true_items : items_of (factor_events factors.True) ≡ items.Word ∷ []
true_items = rw (true_made, items-construct) refl

pub false_items : items_of (factor_events factors.False) ≡ items.Word ∷ []
false_items = rw (false_made, items-construct) refl

pub set_items : (o : Option (Box ElementList Global)) →
    items_of (factor_events (factors.Set o)) ≡ items.Word ∷ (items_of (if_present (λ l. element_list_events l.value) o) ++ items.Word ∷ [])
set_items o = simp (set_made o, items-construct, items-append)

pub name_items : (d : Designator) → items_of (factor_events (factors.Name d)) ≡ items_of (designator_events d)
name_items d = rw (name_made d, items-construct) refl

pub group_items : (b : Box Expr Global) →
    items_of (factor_events (factors.Group b)) ≡ items.Word ∷ (items_of (expr_events b.value) ++ items.Word ∷ [])
group_items b = simp (group_made b, items-construct, items-append)

pub not_items : (b : Box Factor Global) → items_of (factor_events (factors.Not b)) ≡ items.Word ∷ items_of (factor_events b.value)
not_items b = simp (not_made b, items-construct)

pub field_items : (n : ℕ) → items_of (selector_events (selectors.Field n)) ≡ items.Word ∷ items.Identifier roles.Selects n ∷ []
field_items n = rw (field_made n, items-construct) refl

pub index_items : (b : Box ExprList Global) →
    items_of (selector_events (selectors.Index b)) ≡ items.Word ∷ (items_of (expr_list_events b.value) ++ items.Word ∷ [])
index_items b = simp (index_made b, items-construct, items-append)

pub target_items : items_of (selector_events selectors.Target) ≡ items.Word ∷ []
target_items = rw (target_made, items-construct) refl

pub arguments_items : (o : Option (Box ExprList Global)) →
    items_of (selector_events (selectors.Arguments o)) ≡ items.Word ∷ (items_of (if_present (λ l. expr_list_events l.value) o) ++ items.Word ∷ [])
arguments_items o = simp (arguments_made o, items-construct, items-append)

-- what closes the goals of each walk
pub ruleset expr_walk = (walks, expr_items)

pub ruleset sum_walk = (walks, sum_items)

pub ruleset term_walk = (walks, term_items)

pub ruleset element_walk = (walks, element_items)

pub ruleset element_list_walk = (walks, element_list_items)

pub ruleset expr_list_walk = (walks, expr_list_items)

pub ruleset designator_walk = (walks, designator_items)

pub ruleset factor_walk = (walks, value_items, nil_items, true_items, false_items, set_items, name_items, group_items, not_items)

pub ruleset selector_walk = (walks, field_items, index_items, target_items, arguments_items)
