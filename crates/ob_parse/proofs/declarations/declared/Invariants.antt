use Rattle.std.proofs.Common.{◌≡◌, ◌++◌, length}
use Rattle.ob_scan.specs.declared.kind.Kind.TheVariants as kinds
use Rattle.ob_tree.specs.TreeEvents.{each, word}
use Rattle.ob_grammar.specs.Combinators.{begins, many}
use Rattle.ob_grammar.specs.ReadModules.{is_identifier, with_semicolon}
use Rattle.ob_grammar.specs.ParsesAs.{remaining}
use Rattle.ob_grammar.proofs.Loops.{with_front}
use Rattle.ob_parse.proofs.declarations.declared.Given as goal

abbrev pub invariant-more : goal.invariant-more
invariant-more g l =
    with_front (each (λ d. g.D.Declaration.shown d ++ word kinds.Semicolon) l.declared.items) (many (begins is_identifier) (with_semicolon (g.D.Declaration.read l.depth)) (remaining l.fn.tokens l.here))
    ≡ many (begins is_identifier) (with_semicolon (g.D.Declaration.read l.depth)) (remaining l.fn.tokens l.fn.input)

abbrev pub decreases-more : goal.decreases-more
decreases-more g l = length (remaining l.fn.tokens l.here)
