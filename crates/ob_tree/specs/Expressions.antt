-- The event sequences of expressions and designators, one definition for each production (Oberon-07 report, section 8).
use Rattle.std.specs.Prelude.{[], ◌∷◌, ◌++◌}
use Rattle.ob_scan.specs.declared.kind.Kind.{Kind}
use Rattle.ob_scan.specs.declared.kind.Kind.TheVariants as kinds
use Rattle.ob_tree.specs.declared.expression.Relation.{Relation}
use Rattle.ob_tree.specs.declared.expression.Relation.TheVariants as relations
use Rattle.ob_tree.specs.declared.expression.Sign.{Sign}
use Rattle.ob_tree.specs.declared.expression.Sign.TheVariants as signs
use Rattle.ob_tree.specs.declared.expression.AddOperator.{AddOperator}
use Rattle.ob_tree.specs.declared.expression.AddOperator.TheVariants as sums
use Rattle.ob_tree.specs.declared.expression.MulOperator.{MulOperator}
use Rattle.ob_tree.specs.declared.expression.MulOperator.TheVariants as products
use Rattle.ob_tree.specs.declared.expression.Factor.{Factor, Factor-F, fold-Factor}
use Rattle.ob_tree.specs.declared.expression.Factor.TheOpen as layers
use Rattle.ob_tree.specs.declared.expression.Selector.{Selector, Selector-F, fold-Selector}
use Rattle.ob_tree.specs.declared.expression.Designator.{Designator, Designator-F, fold-Designator}
use Rattle.ob_tree.specs.declared.expression.Element.{Element, Element-F, fold-Element}
use Rattle.ob_tree.specs.declared.expression.ElementList.{ElementList, ElementList-F, fold-ElementList}
use Rattle.ob_tree.specs.declared.expression.Expr.{Expr, Expr-F, fold-Expr}
use Rattle.ob_tree.specs.declared.expression.ExprList.{ExprList, ExprList-F, fold-ExprList}
use Rattle.ob_tree.specs.declared.expression.SimpleExpression.{SimpleExpression, SimpleExpression-F, fold-SimpleExpression}
use Rattle.ob_tree.specs.declared.expression.Term.{Term, Term-F, fold-Term}
use Rattle.ob_tree.specs.Constructs as constructs
use Rattle.ob_tree.specs.TreeEvents.{Events, Value, construct, word, used, selected, if_present, each, each_after}

-- relation = "=" | "#" | "<" | "<=" | ">" | ">=" | IN | IS
abbrev pub relation_kind : Relation → Kind
relation_kind relations.Equal = kinds.Equals
relation_kind relations.Unequal = kinds.Hash
relation_kind relations.Less = kinds.Less
relation_kind relations.LessEqual = kinds.LessEquals
relation_kind relations.Greater = kinds.Greater
relation_kind relations.GreaterEqual = kinds.GreaterEquals
relation_kind relations.In = kinds.In
relation_kind relations.Is = kinds.Is

-- "+" | "-"
abbrev pub sign_kind : Sign → Kind
sign_kind signs.Plus = kinds.Plus
sign_kind signs.Minus = kinds.Minus

-- "+" | "-" | OR
abbrev pub add_kind : AddOperator → Kind
add_kind sums.Plus = kinds.Plus
add_kind sums.Minus = kinds.Minus
add_kind sums.Or = kinds.Or

-- "*" | "/" | DIV | MOD | "&"
abbrev pub mul_kind : MulOperator → Kind
mul_kind products.Times = kinds.Star
mul_kind products.Divide = kinds.Slash
mul_kind products.Div = kinds.Div
mul_kind products.Mod = kinds.Mod
mul_kind products.And = kinds.Ampersand

-- Each `.._step` below gives the event sequence of a node from the event sequences of its children.

-- factor = integer | real | string | NIL | TRUE | FALSE | set | designator | "(" expression ")" | "~" factor
-- set = "{" [element {"," element}] "}"
abbrev pub factor_parts : Factor-F Events Events Events Events Events Events Events Events Events → Events
factor_parts (layers.Value k n) = Value k n ∷ []
factor_parts layers.Nil = word kinds.Nil
factor_parts layers.True = word kinds.True
factor_parts layers.False = word kinds.False
factor_parts (layers.Set elements) = word kinds.LeftBrace ++ (if_present (λ l. l.value) elements ++ word kinds.RightBrace)
factor_parts (layers.Name d) = d
factor_parts (layers.Group e) = word kinds.LeftParen ++ (e.value ++ word kinds.RightParen)
factor_parts (layers.Not f) = word kinds.Tilde ++ construct constructs.Negated f.value

abbrev pub factor_step : Factor-F Events Events Events Events Events Events Events Events Events → Events
factor_step f = construct constructs.Factor (factor_parts f)

-- selector = "." ident | "[" list "]" | "^" | "(" [list] ")"
abbrev pub selector_parts : Selector-F Events Events Events Events Events Events Events Events Events → Events
selector_parts (layers.Field n) = word kinds.Dot ++ selected n
selector_parts (layers.Index list) = word kinds.LeftBracket ++ (list.value ++ word kinds.RightBracket)
selector_parts layers.Target = word kinds.Caret
selector_parts (layers.Arguments list) = word kinds.LeftParen ++ (if_present (λ l. l.value) list ++ word kinds.RightParen)

abbrev pub selector_step : Selector-F Events Events Events Events Events Events Events Events Events → Events
selector_step s = construct constructs.Selector (selector_parts s)

-- designator = ident {selector}
abbrev pub designator_step : Designator-F Events Events Events Events Events Events Events Events Events → Events
designator_step d = construct constructs.Designator (used d.head ++ each (λ s. s) d.selectors.items)

-- element = expression [".." expression]
abbrev pub element_step : Element-F Events Events Events Events Events Events Events Events Events → Events
element_step e = construct constructs.Element (e.low ++ if_present (λ h. word kinds.DotDot ++ h) e.high)

-- element {"," element}
abbrev pub element_list_step : ElementList-F Events Events Events Events Events Events Events Events Events → Events
element_list_step l = l.first ++ each_after kinds.Comma (λ e. e) l.rest.items

-- expression = SimpleExpression [relation SimpleExpression]
abbrev pub expr_step : Expr-F Events Events Events Events Events Events Events Events Events → Events
expr_step e = construct constructs.Expression (e.left ++ if_present (λ c. word (relation_kind c.0) ++ c.1.value) e.compared)

-- list = expression {"," expression}
abbrev pub expr_list_step : ExprList-F Events Events Events Events Events Events Events Events Events → Events
expr_list_step l = l.first ++ each_after kinds.Comma (λ e. e) l.rest.items

-- SimpleExpression = ["+" | "-"] term {("+" | "-" | OR) term}
abbrev pub sum_step : SimpleExpression-F Events Events Events Events Events Events Events Events Events → Events
sum_step s = construct constructs.SimpleExpression (if_present (λ x. word (sign_kind x)) s.sign ++ (s.first ++ each (λ p. word (add_kind p.0) ++ p.1) s.rest.items))

-- term = factor {("*" | "/" | DIV | MOD | "&") factor}
abbrev pub term_step : Term-F Events Events Events Events Events Events Events Events Events → Events
term_step t = construct constructs.Term (t.first ++ each (λ p. word (mul_kind p.0) ++ p.1) t.rest.items)

-- Each definition below gives the event sequence of a whole tree of one production, by folding the steps over the tree.
unfoldable pub factor_events : Factor → Events
factor_events = fold-Factor Events Events Events Events Events Events Events Events Events factor_step selector_step designator_step element_step element_list_step expr_step expr_list_step sum_step term_step

unfoldable pub selector_events : Selector → Events
selector_events = fold-Selector Events Events Events Events Events Events Events Events Events factor_step selector_step designator_step element_step element_list_step expr_step expr_list_step sum_step term_step

unfoldable pub designator_events : Designator → Events
designator_events = fold-Designator Events Events Events Events Events Events Events Events Events factor_step selector_step designator_step element_step element_list_step expr_step expr_list_step sum_step term_step

unfoldable pub element_events : Element → Events
element_events = fold-Element Events Events Events Events Events Events Events Events Events factor_step selector_step designator_step element_step element_list_step expr_step expr_list_step sum_step term_step

unfoldable pub element_list_events : ElementList → Events
element_list_events = fold-ElementList Events Events Events Events Events Events Events Events Events factor_step selector_step designator_step element_step element_list_step expr_step expr_list_step sum_step term_step

unfoldable pub expr_events : Expr → Events
expr_events = fold-Expr Events Events Events Events Events Events Events Events Events factor_step selector_step designator_step element_step element_list_step expr_step expr_list_step sum_step term_step

unfoldable pub expr_list_events : ExprList → Events
expr_list_events = fold-ExprList Events Events Events Events Events Events Events Events Events factor_step selector_step designator_step element_step element_list_step expr_step expr_list_step sum_step term_step

unfoldable pub sum_events : SimpleExpression → Events
sum_events = fold-SimpleExpression Events Events Events Events Events Events Events Events Events factor_step selector_step designator_step element_step element_list_step expr_step expr_list_step sum_step term_step

unfoldable pub term_events : Term → Events
term_events = fold-Term Events Events Events Events Events Events Events Events Events factor_step selector_step designator_step element_step element_list_step expr_step expr_list_step sum_step term_step
