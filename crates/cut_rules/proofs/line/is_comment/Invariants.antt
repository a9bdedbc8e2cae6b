use Rattle.std.proofs.Common.{◌≡◌, drop}
use Rattle.cut_rules.specs.LineReading.{is_comment}
use Rattle.cut_rules.proofs.line.is_comment.Given as goal

abbrev pub invariant-loop-byte : goal.invariant-loop-byte
invariant-loop-byte l = is_comment l.bytes ≡ is_comment (drop l.byte-index l.bytes)
