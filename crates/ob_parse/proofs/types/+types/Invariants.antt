use Rattle.std.proofs.Common.{◌+◌, ◌*◌, length}
use Rattle.ob_grammar.specs.ParsesAs.{remaining}
use Rattle.ob_grammar.proofs.Repetitions.{field_lists}
use Rattle.ob_grammar.proofs.Turns.{AreTurnsRead}
use Rattle.ob_parse.proofs.types.+types.Given as goal

abbrev pub decreases-type_expression : goal.decreases-type_expression
decreases-type_expression l = 16 * l.depth + 0

abbrev pub decreases-var_declaration : goal.decreases-var_declaration
decreases-var_declaration l = 16 * l.depth + 1

abbrev pub decreases-field_list : goal.decreases-field_list
decreases-field_list l = 16 * l.depth + 2

abbrev pub decreases-more_field_lists : goal.decreases-more_field_lists
decreases-more_field_lists l = 16 * l.depth + 3

abbrev pub decreases-fields : goal.decreases-fields
decreases-fields l = 16 * l.depth + 4

abbrev pub decreases-optional_fields : goal.decreases-optional_fields
decreases-optional_fields l = 16 * l.depth + 5

abbrev pub decreases-record : goal.decreases-record
decreases-record l = 16 * l.depth + 6

abbrev pub invariant-more_field_lists-more : goal.invariant-more_field_lists-more
invariant-more_field_lists-more l = AreTurnsRead l.fn.tokens (field_lists l.depth) l.rest.items l.fn.input l.here

abbrev pub decreases-more_field_lists-more : goal.decreases-more_field_lists-more
decreases-more_field_lists-more l = length (remaining l.fn.tokens l.here)

abbrev pub decreases-type_after_depth_check : goal.decreases-type_after_depth_check
decreases-type_after_depth_check l = 16 * l.depth + 8

abbrev pub decreases-array : goal.decreases-array
decreases-array l = 16 * l.depth + 7

abbrev pub decreases-pointer : goal.decreases-pointer
decreases-pointer l = 16 * l.depth + 7
