use Rattle.std.proofs.Common.{◌≡◌, ◌≤◌, length, take}
use Rattle.ob_scope.specs.Visibility.{AreInterned}
use Rattle.ob_scan.specs.Texts.{text_at}
use Rattle.ob_scope.proofs.Aparts.{AreApart}
use Rattle.ob_scope.proofs.distinct.intern_ascending.Given as goal

abbrev pub invariant-loop-i : goal.invariant-loop-i
invariant-loop-i l = record {
  as_many : length l.passed ≡ length l.members;
  few : length l.named.names.keys ≤ l.i;
  numbered : AreInterned (text_at l.text.bytes.now l.text.tokens.now) (take l.i l.members) l.named.names.keys l.named.numbers.items;
  distinct : AreApart (text_at l.text.bytes.now l.text.tokens.now) l.members l.named.numbers.items l.passed l.i;
}
