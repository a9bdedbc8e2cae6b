use Rattle.std.proofs.Common.{◌≡◌, ◌+◌, ◌*◌, length}
use Rattle.table_rules.specs.Expressions.{term_rows, factor_rows, element_rows}
use Rattle.ob_grammar.specs.ParsesAs.{remaining}
use Rattle.ob_grammar.specs.ReadExpressions.{selector_with, expr_at}
use Rattle.ob_grammar.proofs.Repetitions.{elements, factor_operations, term_operations}
use Rattle.table_reader.proofs.Lists.{behind_token, OperationListing, RepeatListing}
use Rattle.table_reader.proofs.DesignatorTrees.{ChosenListing}
use Rattle.table_reader.proofs.CallTrees.{FurtherListing}
use Rattle.table_reader.proofs.expressions.+expressions.Given as goal

abbrev pub decreases-expression : goal.decreases-expression
decreases-expression l = 16 * l.depth + 0

abbrev pub decreases-comparison : goal.decreases-comparison
decreases-comparison l = 16 * l.depth + 14

abbrev pub decreases-sum : goal.decreases-sum
decreases-sum l = 16 * l.depth + 13

abbrev pub decreases-more_terms : goal.decreases-more_terms
decreases-more_terms l = 16 * l.depth + 12

abbrev pub decreases-term : goal.decreases-term
decreases-term l = 16 * l.depth + 11

abbrev pub decreases-more_factors : goal.decreases-more_factors
decreases-more_factors l = 16 * l.depth + 10

abbrev pub decreases-factor : goal.decreases-factor
decreases-factor l = 16 * l.depth + 9

abbrev pub decreases-set : goal.decreases-set
decreases-set l = 16 * l.depth + 8

abbrev pub decreases-parenthesized_factor : goal.decreases-parenthesized_factor
decreases-parenthesized_factor l = 16 * l.depth + 8

abbrev pub decreases-negated_factor : goal.decreases-negated_factor
decreases-negated_factor l = 16 * l.depth + 8

abbrev pub decreases-elements : goal.decreases-elements
decreases-elements l = 16 * l.depth + 6

abbrev pub decreases-element_list : goal.decreases-element_list
decreases-element_list l = 16 * l.depth + 5

abbrev pub decreases-more_elements : goal.decreases-more_elements
decreases-more_elements l = 16 * l.depth + 4

abbrev pub decreases-element : goal.decreases-element
decreases-element l = 16 * l.depth + 3

abbrev pub decreases-upper_bound : goal.decreases-upper_bound
decreases-upper_bound l = 16 * l.depth + 2

abbrev pub decreases-designator : goal.decreases-designator
decreases-designator l = 16 * l.depth + 7

abbrev pub invariant-more_terms-more : goal.invariant-more_terms-more
invariant-more_terms-more l = (OperationListing l.fn.source.tokens.now (term_operations l.depth) term_rows l.context l.initial.builder l.builder l.fn.input l.here) × (l.builder.number ≡ l.here.at)

abbrev pub decreases-more_terms-more : goal.decreases-more_terms-more
decreases-more_terms-more l = length (remaining l.fn.source.tokens.now l.here)

abbrev pub invariant-more_factors-more : goal.invariant-more_factors-more
invariant-more_factors-more l = (OperationListing l.fn.source.tokens.now (factor_operations l.depth) factor_rows l.context l.initial.builder l.builder l.fn.input l.here) × (l.builder.number ≡ l.here.at)

abbrev pub decreases-more_factors-more : goal.decreases-more_factors-more
decreases-more_factors-more l = length (remaining l.fn.source.tokens.now l.here)

abbrev pub invariant-more_elements-more : goal.invariant-more_elements-more
invariant-more_elements-more l = (RepeatListing l.fn.source.tokens.now (elements l.depth) (behind_token element_rows) l.context l.initial.builder l.builder l.fn.input l.here) × (l.builder.number ≡ l.here.at)

abbrev pub decreases-more_elements-more : goal.decreases-more_elements-more
decreases-more_elements-more l = length (remaining l.fn.source.tokens.now l.here)

abbrev pub decreases-selectors : goal.decreases-selectors
decreases-selectors l = 16 * l.depth + 6

abbrev pub decreases-selector : goal.decreases-selector
decreases-selector l = 16 * l.depth + 5

abbrev pub decreases-index : goal.decreases-index
decreases-index l = 16 * l.depth + 4

abbrev pub decreases-call : goal.decreases-call
decreases-call l = 16 * l.depth + 4

abbrev pub decreases-arguments : goal.decreases-arguments
decreases-arguments l = 16 * l.depth + 3

abbrev pub decreases-expression_list : goal.decreases-expression_list
decreases-expression_list l = 16 * l.depth + 2

abbrev pub decreases-more_expressions : goal.decreases-more_expressions
decreases-more_expressions l = 16 * l.depth + 1

abbrev pub invariant-selectors-more : goal.invariant-selectors-more
invariant-selectors-more l = (ChosenListing l.fn.source.tokens.now (selector_with (expr_at l.depth)) l.context l.head l.at l.slot l.end l.fn.builder l.builder l.fn.input l.here) × (l.builder.number ≡ l.here.at)

abbrev pub decreases-selectors-more : goal.decreases-selectors-more
decreases-selectors-more l = length (remaining l.fn.source.tokens.now l.here)

abbrev pub invariant-more_expressions-more : goal.invariant-more_expressions-more
invariant-more_expressions-more l = (FurtherListing l.fn.source.tokens.now (expr_at l.depth) l.context l.count l.initial.builder l.builder l.fn.input l.here) × (l.builder.number ≡ l.here.at)

abbrev pub decreases-more_expressions-more : goal.decreases-more_expressions-more
decreases-more_expressions-more l = length (remaining l.fn.source.tokens.now l.here)
