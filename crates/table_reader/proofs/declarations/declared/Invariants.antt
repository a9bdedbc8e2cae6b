use Rattle.std.proofs.Common.{◌≡◌, length}
use Rattle.ob_tree.specs.TreeEvents.{construct}
use Rattle.module_table.specs.Parts.{declaring}
use Rattle.ob_grammar.specs.ParsesAs.{remaining}
use Rattle.ob_grammar.specs.Combinators.{node}
use Rattle.ob_grammar.proofs.Repetitions.{declarations}
use Rattle.table_reader.specs.DeclarationShapes.{ended_rows}
use Rattle.table_reader.proofs.Lists.{RepeatListing}
use Rattle.table_reader.proofs.declarations.declared.Given as goal

abbrev pub invariant-more : goal.invariant-more
invariant-more g l = (RepeatListing l.fn.source.tokens.now (declarations (node g.D.Declaration.production (g.D.Declaration.read l.depth)) (g.met.D.Declaration.shortens l.depth) (λ x. construct g.D.Declaration.production (g.D.Declaration.events x))) (ended_rows (λ x. declaring l.decl_kind (g.D.Declaration.effect x))) l.context l.initial.builder l.builder l.fn.input l.here) × (l.builder.number ≡ l.here.at)

abbrev pub decreases-more : goal.decreases-more
decreases-more g l = length (remaining l.fn.source.tokens.now l.here)
