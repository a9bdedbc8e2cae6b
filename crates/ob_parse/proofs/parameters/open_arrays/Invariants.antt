use Rattle.std.proofs.Common.{◌≡◌, ◌++◌, ◌+◌, ◌≤◌, length}
use Rattle.ob_scan.specs.declared.kind.Kind.TheVariants as kinds
use Rattle.ob_tree.specs.TreeEvents.{word, times}
use Rattle.ob_grammar.specs.Combinators.{many, accept_at, expect_at}
use Rattle.ob_grammar.specs.ParsesAs.{remaining}
use Rattle.ob_grammar.proofs.Loops.{with_front}
use Rattle.ob_parse.proofs.parameters.open_arrays.Given as goal

abbrev pub invariant-more : goal.invariant-more
invariant-more l =
    (with_front (times l.count (word kinds.Array ++ word kinds.Of)) (many (accept_at kinds.Array) (expect_at kinds.Of) (remaining l.fn.tokens l.here))
    ≡ many (accept_at kinds.Array) (expect_at kinds.Of) (remaining l.fn.tokens l.fn.input))
    × (l.count + length (remaining l.fn.tokens l.here) ≤ length (remaining l.fn.tokens l.fn.input))

abbrev pub decreases-more : goal.decreases-more
decreases-more l = length (remaining l.fn.tokens l.here)
