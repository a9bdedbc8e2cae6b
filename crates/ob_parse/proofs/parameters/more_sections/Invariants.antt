use Rattle.std.proofs.Common.{length}
use Rattle.ob_grammar.specs.ParsesAs.{remaining}
use Rattle.ob_grammar.proofs.Repetitions.{sections}
use Rattle.ob_grammar.proofs.Turns.{AreTurnsRead}
use Rattle.ob_parse.proofs.parameters.more_sections.Given as goal

abbrev pub invariant-more : goal.invariant-more
invariant-more l = AreTurnsRead l.fn.tokens sections l.rest.items l.fn.input l.here

abbrev pub decreases-more : goal.decreases-more
decreases-more l = length (remaining l.fn.tokens l.here)
