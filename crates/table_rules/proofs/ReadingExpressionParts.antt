-- What is shown of each production of expressions: that its trees can be read.
use Rattle.ob_scan.specs.declared.kind.Kind.TheVariants as kinds
use Rattle.ob_tree.specs.Expressions.{factor_events, selector_events, designator_events, element_events, element_list_events, expr_events, expr_list_events, sum_events, term_events}
use Rattle.ob_tree.proofs.ExpressionInduction.{ExpressionPredicates}
use Rattle.table_rules.specs.Expressions.{factor_phrase, selected, designator_phrase, element_rows, element_list_rows, expr_phrase, list_phrase, sum_phrase, term_phrase}
use Rattle.table_rules.proofs.Reading.{Reads, never, on_word}

abbrev pub readable : ExpressionPredicates
readable = record {
  factor = λ x. Reads factor_phrase factor_events never (factor_phrase x) (factor_events x);
  selector = λ x. Reads selected selector_events never (selected x) (selector_events x);
  designator = λ x. Reads designator_phrase designator_events never (designator_phrase x) (designator_events x);
  element = λ x. Reads element_rows element_events never (element_rows x) (element_events x);
  element_list = λ x. Reads element_list_rows element_list_events (on_word kinds.Comma) (element_list_rows x) (element_list_events x);
  expr = λ x. Reads expr_phrase expr_events never (expr_phrase x) (expr_events x);
  expr_list = λ x. Reads list_phrase expr_list_events (on_word kinds.Comma) (list_phrase x) (expr_list_events x);
  sum = λ x. Reads sum_phrase sum_events never (sum_phrase x) (sum_events x);
  term = λ x. Reads term_phrase term_events never (term_phrase x) (term_events x);
}
