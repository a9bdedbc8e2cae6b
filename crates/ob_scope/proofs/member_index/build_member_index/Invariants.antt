use Rattle.std.specs.Prelude.{take}
use Rattle.ob_scan.specs.Texts.{text_at}
use Rattle.ob_scope.specs.MemberIndex.{IsIndex}
use Rattle.ob_scope.proofs.member_index.build_member_index.Given as goal

abbrev pub invariant-loop-i : goal.invariant-loop-i
invariant-loop-i l = IsIndex (text_at l.text.bytes.now l.text.tokens.now) (take l.i l.members) l.index.keys
