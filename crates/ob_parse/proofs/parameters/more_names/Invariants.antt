use Rattle.std.proofs.Common.{length}
use Rattle.ob_grammar.specs.ParsesAs.{remaining}
use Rattle.ob_grammar.proofs.Repetitions.{parameter_names}
use Rattle.ob_grammar.proofs.Turns.{AreTurnsRead}
use Rattle.ob_parse.proofs.parameters.more_names.Given as goal

abbrev pub invariant-more : goal.invariant-more
invariant-more l = AreTurnsRead l.fn.tokens parameter_names l.rest.items l.fn.input l.here

abbrev pub decreases-more : goal.decreases-more
decreases-more l = length (remaining l.fn.tokens l.here)
