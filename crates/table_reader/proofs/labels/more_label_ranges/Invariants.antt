use Rattle.std.proofs.Common.{◌≡◌, length}
use Rattle.table_rules.specs.Statements.{label_range_rows}
use Rattle.ob_grammar.specs.ParsesAs.{remaining}
use Rattle.ob_grammar.proofs.Repetitions.{label_ranges}
use Rattle.table_reader.proofs.Lists.{behind_token, RepeatListing}
use Rattle.table_reader.proofs.labels.more_label_ranges.Given as goal

abbrev pub invariant-more : goal.invariant-more
invariant-more l = (RepeatListing l.fn.tokens label_ranges (behind_token label_range_rows) l.context l.initial.builder l.builder l.fn.input l.here) × (l.builder.number ≡ l.here.at)

abbrev pub decreases-more : goal.decreases-more
decreases-more l = length (remaining l.fn.tokens l.here)
