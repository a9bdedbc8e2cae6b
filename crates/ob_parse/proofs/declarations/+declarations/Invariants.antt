use Rattle.std.proofs.Common.{◌+◌, ◌*◌, length}
use Rattle.ob_grammar.specs.ParsesAs.{remaining}
use Rattle.ob_grammar.proofs.Repetitions.{procedures}
use Rattle.ob_grammar.proofs.Turns.{AreTurnsRead}
use Rattle.ob_parse.proofs.declarations.+declarations.Given as goal

abbrev pub decreases-procedure : goal.decreases-procedure
decreases-procedure l = 16 * l.depth + 0

abbrev pub decreases-procedure_with_semicolon : goal.decreases-procedure_with_semicolon
decreases-procedure_with_semicolon l = 16 * l.depth + 1

abbrev pub decreases-procedures : goal.decreases-procedures
decreases-procedures l = 16 * l.depth + 2

abbrev pub decreases-declarations : goal.decreases-declarations
decreases-declarations l = 16 * l.depth + 3

abbrev pub decreases-procedure_remainder : goal.decreases-procedure_remainder
decreases-procedure_remainder l = 16 * l.depth + 4

abbrev pub decreases-procedure_after_depth_check : goal.decreases-procedure_after_depth_check
decreases-procedure_after_depth_check l = 16 * l.depth + 5

abbrev pub invariant-procedures-more : goal.invariant-procedures-more
invariant-procedures-more l = AreTurnsRead l.fn.tokens (procedures l.depth) l.declared.items l.fn.input l.here

abbrev pub decreases-procedures-more : goal.decreases-procedures-more
decreases-procedures-more l = length (remaining l.fn.tokens l.here)
