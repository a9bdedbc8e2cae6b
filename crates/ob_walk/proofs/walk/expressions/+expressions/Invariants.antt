use Rattle.std.proofs.Common.{◌≡◌, ◌++◌, take}
use Rattle.ob_scan.specs.declared.kind.Kind.TheVariants as kinds
use Rattle.ob_walk.specs.Items.{items_of, with_items}
use Rattle.ob_tree.specs.TreeEvents.{word, each, each_after}
use Rattle.ob_tree.specs.Expressions.{add_kind, mul_kind, factor_events, term_events, element_events, expr_events, selector_events}
use Rattle.ob_walk.proofs.walk.expressions.+expressions.Given as goal

abbrev pub invariant-walk_sum-loop-term : goal.invariant-walk_sum-loop-term
invariant-walk_sum-loop-term l = l.out ≡ with_items l.initial.out (items_of (each (λ p. word (add_kind p.0) ++ term_events p.1) (take l.term-index l.term-items)))

abbrev pub invariant-walk_term-loop-factor : goal.invariant-walk_term-loop-factor
invariant-walk_term-loop-factor l = l.out ≡ with_items l.initial.out (items_of (each (λ p. word (mul_kind p.0) ++ factor_events p.1) (take l.factor-index l.factor-items)))

abbrev pub invariant-walk_element_list-loop-element : goal.invariant-walk_element_list-loop-element
invariant-walk_element_list-loop-element l = l.out ≡ with_items l.initial.out (items_of (each_after kinds.Comma element_events (take l.element-index l.element-items)))

abbrev pub invariant-walk_expr_list-loop-expr : goal.invariant-walk_expr_list-loop-expr
invariant-walk_expr_list-loop-expr l = l.out ≡ with_items l.initial.out (items_of (each_after kinds.Comma expr_events (take l.expr-index l.expr-items)))

abbrev pub invariant-walk_designator-loop-selector : goal.invariant-walk_designator-loop-selector
invariant-walk_designator-loop-selector l = l.out ≡ with_items l.initial.out (items_of (each selector_events (take l.selector-index l.selector-items)))
