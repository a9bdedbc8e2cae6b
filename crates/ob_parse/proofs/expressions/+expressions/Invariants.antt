use Rattle.std.proofs.Common.{◌+◌, ◌*◌, length}
use Rattle.ob_grammar.specs.ParsesAs.{remaining}
use Rattle.ob_grammar.proofs.Repetitions.{elements, expressions, factor_operations, selectors, term_operations}
use Rattle.ob_grammar.proofs.Turns.{AreOperationsRead, AreTurnsRead}
use Rattle.ob_parse.proofs.expressions.+expressions.Given as goal

abbrev pub decreases-expression : goal.decreases-expression
decreases-expression l = 16 * l.depth + 0

abbrev pub decreases-high : goal.decreases-high
decreases-high l = 16 * l.depth + 1

abbrev pub decreases-negated_factor : goal.decreases-negated_factor
decreases-negated_factor l = 16 * l.depth + 8

abbrev pub decreases-element : goal.decreases-element
decreases-element l = 16 * l.depth + 2

abbrev pub decreases-more_expressions : goal.decreases-more_expressions
decreases-more_expressions l = 16 * l.depth + 1

abbrev pub decreases-expression_list : goal.decreases-expression_list
decreases-expression_list l = 16 * l.depth + 2

abbrev pub decreases-more_elements : goal.decreases-more_elements
decreases-more_elements l = 16 * l.depth + 3

abbrev pub decreases-element_list : goal.decreases-element_list
decreases-element_list l = 16 * l.depth + 4

abbrev pub decreases-arguments : goal.decreases-arguments
decreases-arguments l = 16 * l.depth + 3

abbrev pub decreases-elements : goal.decreases-elements
decreases-elements l = 16 * l.depth + 5

abbrev pub decreases-selector : goal.decreases-selector
decreases-selector l = 16 * l.depth + 5

abbrev pub decreases-selector_list : goal.decreases-selector_list
decreases-selector_list l = 16 * l.depth + 6

abbrev pub decreases-designator : goal.decreases-designator
decreases-designator l = 16 * l.depth + 7

abbrev pub decreases-factor : goal.decreases-factor
decreases-factor l = 16 * l.depth + 9

abbrev pub decreases-more_factors : goal.decreases-more_factors
decreases-more_factors l = 16 * l.depth + 10

abbrev pub decreases-term : goal.decreases-term
decreases-term l = 16 * l.depth + 11

abbrev pub decreases-more_terms : goal.decreases-more_terms
decreases-more_terms l = 16 * l.depth + 12

abbrev pub decreases-index : goal.decreases-index
decreases-index l = 16 * l.depth + 4

abbrev pub decreases-call : goal.decreases-call
decreases-call l = 16 * l.depth + 4

abbrev pub decreases-named_factor : goal.decreases-named_factor
decreases-named_factor l = 16 * l.depth + 8

abbrev pub decreases-set : goal.decreases-set
decreases-set l = 16 * l.depth + 8

abbrev pub decreases-parenthesized_factor : goal.decreases-parenthesized_factor
decreases-parenthesized_factor l = 16 * l.depth + 8

abbrev pub decreases-sum : goal.decreases-sum
decreases-sum l = 16 * l.depth + 13

abbrev pub decreases-compared : goal.decreases-compared
decreases-compared l = 16 * l.depth + 14

abbrev pub invariant-more_expressions-more : goal.invariant-more_expressions-more
invariant-more_expressions-more l = AreTurnsRead l.fn.tokens (expressions l.depth) l.rest.items l.fn.input l.here

abbrev pub decreases-more_expressions-more : goal.decreases-more_expressions-more
decreases-more_expressions-more l = length (remaining l.fn.tokens l.here)

abbrev pub invariant-more_terms-more : goal.invariant-more_terms-more
invariant-more_terms-more l = AreOperationsRead l.fn.tokens (term_operations l.depth) l.rest.items l.fn.input l.here

abbrev pub decreases-more_terms-more : goal.decreases-more_terms-more
decreases-more_terms-more l = length (remaining l.fn.tokens l.here)

abbrev pub invariant-more_factors-more : goal.invariant-more_factors-more
invariant-more_factors-more l = AreOperationsRead l.fn.tokens (factor_operations l.depth) l.rest.items l.fn.input l.here

abbrev pub decreases-more_factors-more : goal.decreases-more_factors-more
decreases-more_factors-more l = length (remaining l.fn.tokens l.here)

abbrev pub invariant-more_elements-more : goal.invariant-more_elements-more
invariant-more_elements-more l = AreTurnsRead l.fn.tokens (elements l.depth) l.rest.items l.fn.input l.here

abbrev pub decreases-more_elements-more : goal.decreases-more_elements-more
decreases-more_elements-more l = length (remaining l.fn.tokens l.here)

abbrev pub invariant-selector_list-more : goal.invariant-selector_list-more
invariant-selector_list-more l = AreTurnsRead l.fn.tokens (selectors l.depth) l.selectors.items l.fn.input l.here

abbrev pub decreases-selector_list-more : goal.decreases-selector_list-more
decreases-selector_list-more l = length (remaining l.fn.tokens l.here)
