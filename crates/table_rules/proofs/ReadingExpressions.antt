-- The entries of an expression are determined by its event sequence.
use Rattle.ob_tree.specs.declared.expression.Designator.{Designator}
use Rattle.ob_tree.specs.declared.expression.Expr.{Expr}
use Rattle.ob_tree.specs.Expressions.{designator_events, expr_events}
use Rattle.ob_tree.proofs.ExpressionInduction.{ExpressionSteps, expr_induction, designator_induction}
use Rattle.table_rules.specs.Expressions.{designator_phrase, expr_phrase}
use Rattle.table_rules.proofs.Reading.{Reads, never}
use Rattle.table_rules.proofs.ReadingExpressionParts.{readable}
use Rattle.table_rules.proofs.ReadingSums.{expr_layer, term_layer, sum_layer}
use Rattle.table_rules.proofs.ReadingDesignators.{element_layer, element_list_layer, expr_list_layer, designator_layer, selector_layer}
use Rattle.table_rules.proofs.ReadingFactors.{factor_layer}

-- ---- every tree can be read

steps : ExpressionSteps readable
steps = record {
  factor = factor_layer;
  selector = selector_layer;
  designator = designator_layer;
  element = element_layer;
  element_list = element_list_layer;
  expr = expr_layer;
  expr_list = expr_list_layer;
  sum = sum_layer;
  term = term_layer;
}

pub r-expr : (x : Expr) → Reads expr_phrase expr_events never (expr_phrase x) (expr_events x)
r-expr = expr_induction readable steps

pub r-designator : (x : Designator) → Reads designator_phrase designator_events never (designator_phrase x) (designator_events x)
r-designator = designator_induction readable steps
