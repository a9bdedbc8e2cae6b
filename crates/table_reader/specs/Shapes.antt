-- Parts of expressions that have no type in the syntax tree: their events and their entries.
use Rattle.std.specs.Prelude.{◌++◌, Option}
use Rattle.std.specs.Global.{Box, Vec}
use Rattle.ob_scan.specs.declared.kind.Kind.TheVariants as kinds
use Rattle.ob_tree.specs.declared.expression.Relation.{Relation}
use Rattle.ob_tree.specs.declared.expression.Sign.{Sign}
use Rattle.ob_tree.specs.declared.expression.AddOperator.{AddOperator}
use Rattle.ob_tree.specs.declared.expression.MulOperator.{MulOperator}
use Rattle.ob_tree.specs.declared.expression.Expr.{Expr}
use Rattle.ob_tree.specs.declared.expression.ElementList.{ElementList}
use Rattle.ob_tree.specs.declared.expression.ExprList.{ExprList}
use Rattle.ob_tree.specs.declared.expression.Element.{Element}
use Rattle.ob_tree.specs.declared.expression.SimpleExpression.{SimpleExpression}
use Rattle.ob_tree.specs.declared.expression.Term.{Term}
use Rattle.ob_tree.specs.declared.expression.Factor.{Factor}
use Rattle.ob_tree.specs.TreeEvents.{Events, word}
use Rattle.ob_tree.specs.TreeEvents.{if_present as shown_there, each as shown_each, each_after as shown_after}
use Rattle.ob_tree.specs.Expressions.{relation_kind, sign_kind, add_kind, mul_kind, sum_events, term_events, factor_events, expr_events, element_events, element_list_events, expr_list_events}
use Rattle.module_table.specs.Parts.{Fragment, token, both, if_present, each}
use Rattle.table_rules.specs.Expressions.{each_after, sum_rows, term_rows, factor_rows, expr_rows, element_rows, element_list_rows, expr_list_rows}

-- a relation and its right operand, if they are present
abbrev pub Compared : Type 0
Compared = Option (Relation × Box SimpleExpression)

abbrev pub compared_events : Compared → Events
compared_events = shown_there (λ c. word (relation_kind c.0) ++ sum_events c.1.value)

abbrev pub compared_rows : Compared → Fragment
compared_rows = if_present (λ c. both token (sum_rows c.1.value))

-- the events of a sign, if it is present
abbrev pub sign_events : Option Sign → Events
sign_events = shown_there (λ x. word (sign_kind x))

abbrev pub sign_rows : Option Sign → Fragment
sign_rows = if_present (λ x. token)

-- the events of the further terms of a simple expression, each after an operator
abbrev pub terms_events : Vec (AddOperator × Term) → Events
terms_events v = shown_each (λ p. word (add_kind p.0) ++ term_events p.1) v.items

abbrev pub terms_rows : Vec (AddOperator × Term) → Fragment
terms_rows v = each (λ p. both token (term_rows p.1)) v.items

-- the events of the further factors of a term, each after an operator
abbrev pub factors_events : Vec (MulOperator × Factor) → Events
factors_events v = shown_each (λ p. word (mul_kind p.0) ++ factor_events p.1) v.items

abbrev pub factors_rows : Vec (MulOperator × Factor) → Fragment
factors_rows v = each (λ p. both token (factor_rows p.1)) v.items

-- the events of `..` and the upper bound of a range in a set, if they are present
abbrev pub high_events : Option Expr → Events
high_events = shown_there (λ e. word kinds.DotDot ++ expr_events e)

abbrev pub high_rows : Option Expr → Fragment
high_rows = if_present (λ e. both token (expr_rows e))

-- the events of the further elements of a set, each after a comma
abbrev pub elements_events : Vec Element → Events
elements_events v = shown_after kinds.Comma element_events v.items

abbrev pub elements_rows : Vec Element → Fragment
elements_rows v = each_after element_rows v.items

-- the events of the further expressions of a list, each after a comma
abbrev pub exprs_events : Vec Expr → Events
exprs_events v = shown_after kinds.Comma expr_events v.items

abbrev pub exprs_rows : Vec Expr → Fragment
exprs_rows v = each_after expr_rows v.items

-- the events of the elements of a set, if it has any
abbrev pub set_events : Option (Box ElementList) → Events
set_events = shown_there (λ l. element_list_events l.value)

abbrev pub set_rows : Option (Box ElementList) → Fragment
set_rows = if_present (λ l. element_list_rows l.value)

-- the events of the arguments of a call, if it has any
abbrev pub arguments_events : Option (Box ExprList) → Events
arguments_events = shown_there (λ l. expr_list_events l.value)

abbrev pub arguments_rows : Option (Box ExprList) → Fragment
arguments_rows = if_present (λ l. expr_list_rows l.value)
