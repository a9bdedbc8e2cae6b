use Rattle.std.proofs.Common.{◌≡◌, length}
use Rattle.table_rules.specs.Types.{section_rows}
use Rattle.ob_grammar.specs.ParsesAs.{remaining}
use Rattle.ob_grammar.proofs.Repetitions.{sections}
use Rattle.table_reader.proofs.Lists.{behind_token, RepeatListing}
use Rattle.table_reader.proofs.parameters.more_sections.Given as goal

abbrev pub invariant-more : goal.invariant-more
invariant-more l = (RepeatListing l.fn.tokens sections (behind_token section_rows) l.context l.initial.builder l.builder l.fn.input l.here) × (l.builder.number ≡ l.here.at)

abbrev pub decreases-more : goal.decreases-more
decreases-more l = length (remaining l.fn.tokens l.here)
