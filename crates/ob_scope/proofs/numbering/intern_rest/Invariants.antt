use Rattle.std.specs.Prelude.{take}
use Rattle.ob_scope.specs.Visibility.{AreInterned}
use Rattle.ob_scan.specs.Texts.{text_at}
use Rattle.ob_scope.proofs.numbering.intern_rest.Given as goal

abbrev pub invariant-loop-i : goal.invariant-loop-i
invariant-loop-i l = AreInterned (text_at l.text.bytes.now l.text.tokens.now) (take l.i l.members) l.named.names.keys l.named.numbers.items
