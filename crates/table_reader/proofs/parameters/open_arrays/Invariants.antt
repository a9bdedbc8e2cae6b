use Rattle.std.proofs.Common.{◌≡◌, ◌++◌, length}
use Rattle.ob_scan.specs.declared.kind.Kind.TheVariants as kinds
use Rattle.ob_tree.specs.TreeEvents.{word}
use Rattle.ob_grammar.specs.Combinators.{accept_at, expect_at}
use Rattle.ob_grammar.specs.ParsesAs.{remaining}
use Rattle.table_reader.proofs.Lists.{PieceListing}
use Rattle.table_reader.proofs.ParameterTrees.{array_piece}
use Rattle.table_reader.proofs.parameters.open_arrays.Given as goal

abbrev pub invariant-more : goal.invariant-more
invariant-more l = (PieceListing {X = Unit {0}} l.fn.tokens (accept_at kinds.Array) (expect_at kinds.Of) (λ x. word kinds.Array ++ word kinds.Of) array_piece l.context l.initial.builder l.builder l.fn.input l.here) × (l.builder.number ≡ l.here.at)

abbrev pub decreases-more : goal.decreases-more
decreases-more l = length (remaining l.fn.tokens l.here)
