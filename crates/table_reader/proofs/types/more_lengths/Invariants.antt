use Rattle.std.proofs.Common.{◌≡◌, length}
use Rattle.ob_grammar.specs.ParsesAs.{remaining}
use Rattle.ob_grammar.proofs.Repetitions.{expressions}
use Rattle.table_reader.specs.TypeShapes.{length_rows}
use Rattle.table_reader.proofs.Lists.{RepeatListing}
use Rattle.table_reader.proofs.types.more_lengths.Given as goal

abbrev pub invariant-more : goal.invariant-more
invariant-more l = (RepeatListing l.fn.source.tokens.now (expressions l.depth) length_rows l.context l.initial.builder l.builder l.fn.input l.here) × (l.builder.number ≡ l.here.at)

abbrev pub decreases-more : goal.decreases-more
decreases-more l = length (remaining l.fn.source.tokens.now l.here)
