use Rattle.std.proofs.Common.{length}
use Rattle.ob_grammar.specs.ParsesAs.{remaining}
use Rattle.ob_grammar.proofs.Repetitions.{label_ranges}
use Rattle.ob_grammar.proofs.Turns.{AreTurnsRead}
use Rattle.ob_parse.proofs.labels.more_label_ranges.Given as goal

abbrev pub invariant-more : goal.invariant-more
invariant-more l = AreTurnsRead l.fn.tokens label_ranges l.rest.items l.fn.input l.here

abbrev pub decreases-more : goal.decreases-more
decreases-more l = length (remaining l.fn.tokens l.here)
