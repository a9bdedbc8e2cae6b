use Rattle.std.proofs.Common.{◌≡◌, length}
use Rattle.cut_rules.specs.Names.{names_in}
use Rattle.cut_rules.specs.Builders.{HasLines}
use Rattle.cut_rules.specs.RuleLines.{pieces_of}
use Rattle.cut_rules.proofs.reading.read_builder.Given as goal

abbrev pub invariant-loop-piece : goal.invariant-loop-piece
invariant-loop-piece l = (l.line ≡ length l.yielded) × HasLines l.context.net.now l.context.files.now (names_in l.context.names.now.sets.keys) (pieces_of l.bytes) (length l.yielded) l.builder
