use Rattle.std.proofs.Common.{length}
use Rattle.ob_grammar.specs.ParsesAs.{remaining}
use Rattle.ob_grammar.proofs.Repetitions.{declared_names}
use Rattle.ob_grammar.proofs.Turns.{AreTurnsRead}
use Rattle.ob_parse.proofs.types.more_identdefs.Given as goal

abbrev pub invariant-more : goal.invariant-more
invariant-more l = AreTurnsRead l.fn.tokens declared_names l.rest.items l.fn.input l.here

abbrev pub decreases-more : goal.decreases-more
decreases-more l = length (remaining l.fn.tokens l.here)
