use Rattle.std.proofs.Common.{arith}
use Rattle.ob_walk.proofs.ExpressionWalks.{designator_walk, element_list_walk, element_walk, expr_list_walk, expr_walk, factor_walk, selector_walk, sum_walk, term_walk}
use Rattle.ob_walk.proofs.walk.expressions.+expressions.Goals as goal

pub walk_designator-loop-selector-init : goal.walk_designator-loop-selector-init
walk_designator-loop-selector-init t c = grind (arith, designator_walk)

pub walk_designator-loop-selector-preserved : goal.walk_designator-loop-selector-preserved
walk_designator-loop-selector-preserved t c = grind (arith, designator_walk)

pub walk_designator-returns : goal.walk_designator-returns
walk_designator-returns t c = grind (arith, designator_walk)

pub walk_element-returns-in-None : goal.walk_element-returns-in-None
walk_element-returns-in-None t c = grind (arith, element_walk)

pub walk_element-returns-in-Some : goal.walk_element-returns-in-Some
walk_element-returns-in-Some t c = grind (arith, element_walk)

pub walk_element_list-loop-element-init : goal.walk_element_list-loop-element-init
walk_element_list-loop-element-init t c = grind (arith, element_list_walk)

pub walk_element_list-loop-element-preserved : goal.walk_element_list-loop-element-preserved
walk_element_list-loop-element-preserved t c = grind (arith, element_list_walk)

pub walk_element_list-returns : goal.walk_element_list-returns
walk_element_list-returns t c = grind (arith, element_list_walk)

pub walk_expr-returns-in-None : goal.walk_expr-returns-in-None
walk_expr-returns-in-None t c = grind (arith, expr_walk)

pub walk_expr-returns-in-Some : goal.walk_expr-returns-in-Some
walk_expr-returns-in-Some t c = grind (arith, expr_walk)

pub walk_expr_list-loop-expr-init : goal.walk_expr_list-loop-expr-init
walk_expr_list-loop-expr-init t c = grind (arith, expr_list_walk)

pub walk_expr_list-loop-expr-preserved : goal.walk_expr_list-loop-expr-preserved
walk_expr_list-loop-expr-preserved t c = grind (arith, expr_list_walk)

pub walk_expr_list-returns : goal.walk_expr_list-returns
walk_expr_list-returns t c = grind (arith, expr_list_walk)

pub walk_factor-returns-in-Value : goal.walk_factor-returns-in-Value
walk_factor-returns-in-Value t c = grind (arith, factor_walk)

pub walk_factor-returns-in-Nil : goal.walk_factor-returns-in-Nil
walk_factor-returns-in-Nil t c = grind (arith, factor_walk)

pub walk_factor-returns-in-True : goal.walk_factor-returns-in-True
walk_factor-returns-in-True t c = grind (arith, factor_walk)

pub walk_factor-returns-in-False : goal.walk_factor-returns-in-False
walk_factor-returns-in-False t c = grind (arith, factor_walk)

pub walk_factor-returns-in-Name : goal.walk_factor-returns-in-Name
walk_factor-returns-in-Name t c = grind (arith, factor_walk)

pub walk_factor-returns-in-Group : goal.walk_factor-returns-in-Group
walk_factor-returns-in-Group t c = grind (arith, factor_walk)

pub walk_factor-returns-in-Not : goal.walk_factor-returns-in-Not
walk_factor-returns-in-Not t c = grind (arith, factor_walk)

pub walk_selector-returns-in-Field : goal.walk_selector-returns-in-Field
walk_selector-returns-in-Field t c = grind (arith, selector_walk)

pub walk_selector-returns-in-Index : goal.walk_selector-returns-in-Index
walk_selector-returns-in-Index t c = grind (arith, selector_walk)

pub walk_selector-returns-in-Target : goal.walk_selector-returns-in-Target
walk_selector-returns-in-Target t c = grind (arith, selector_walk)

pub walk_sum-loop-term-init : goal.walk_sum-loop-term-init
walk_sum-loop-term-init t c = grind (arith, sum_walk)

pub walk_sum-loop-term-preserved : goal.walk_sum-loop-term-preserved
walk_sum-loop-term-preserved t c = grind (arith, sum_walk)

pub walk_sum-returns : goal.walk_sum-returns
walk_sum-returns t c = grind (arith, sum_walk)

pub walk_term-loop-factor-init : goal.walk_term-loop-factor-init
walk_term-loop-factor-init t c = grind (arith, term_walk)

pub walk_term-loop-factor-preserved : goal.walk_term-loop-factor-preserved
walk_term-loop-factor-preserved t c = grind (arith, term_walk)

pub walk_term-returns : goal.walk_term-returns
walk_term-returns t c = grind (arith, term_walk)
