use Rattle.std.proofs.Common.{length}
use Rattle.cut_rules.specs.RuleLines.{pieces_of}
use Rattle.cut_rules.proofs.NameLaws.{AreDeclaredWithin}
use Rattle.cut_rules.proofs.names.declared_sets.Given as goal

abbrev pub invariant-loop-piece : goal.invariant-loop-piece
invariant-loop-piece l = AreDeclaredWithin (pieces_of l.bytes) (length l.yielded) l.names.keys l.declared.items
