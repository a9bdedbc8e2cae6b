use Rattle.std.proofs.Common.{◌≡◌, ◌+◌, ◌*◌, length}
use Rattle.ob_scan.specs.declared.kind.Kind.TheVariants as kinds
use Rattle.ob_tree.specs.Declaring.{procedure_events}
use Rattle.table_rules.specs.Declaring.{procedure_rows}
use Rattle.ob_grammar.specs.Lookahead.{is_word}
use Rattle.ob_grammar.specs.Combinators.{begins}
use Rattle.ob_grammar.specs.ParsesAs.{remaining}
use Rattle.ob_grammar.specs.ReadModules.{with_semicolon, procedure_at}
use Rattle.table_reader.specs.DeclarationShapes.{ended_events, ended_rows}
use Rattle.table_reader.proofs.Lists.{PieceListing}
use Rattle.table_reader.proofs.declarations.+declarations.Given as goal

abbrev pub decreases-procedure : goal.decreases-procedure
decreases-procedure l = 16 * l.depth + 0

abbrev pub decreases-procedure_with_semicolon : goal.decreases-procedure_with_semicolon
decreases-procedure_with_semicolon l = 16 * l.depth + 1

abbrev pub decreases-procedures : goal.decreases-procedures
decreases-procedures l = 16 * l.depth + 2

abbrev pub decreases-declarations : goal.decreases-declarations
decreases-declarations l = 16 * l.depth + 3

abbrev pub decreases-procedure_block : goal.decreases-procedure_block
decreases-procedure_block l = 16 * l.depth + 4

abbrev pub decreases-procedure_after_name : goal.decreases-procedure_after_name
decreases-procedure_after_name l = 16 * l.depth + 5

abbrev pub decreases-procedure_in_block : goal.decreases-procedure_in_block
decreases-procedure_in_block l = 16 * l.depth + 6

abbrev pub decreases-procedure_after_depth_check : goal.decreases-procedure_after_depth_check
decreases-procedure_after_depth_check l = 16 * l.depth + 7

abbrev pub invariant-procedures-more : goal.invariant-procedures-more
invariant-procedures-more l = (PieceListing l.fn.source.tokens.now (begins (is_word kinds.Procedure)) (with_semicolon (procedure_at l.depth)) (ended_events procedure_events) (ended_rows procedure_rows) l.context l.initial.builder l.builder l.fn.input l.here) × (l.builder.number ≡ l.here.at)

abbrev pub decreases-procedures-more : goal.decreases-procedures-more
decreases-procedures-more l = length (remaining l.fn.source.tokens.now l.here)
