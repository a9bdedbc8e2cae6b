use Rattle.std.proofs.Common.{take}
use Rattle.std.specs.List.{All}
use Rattle.ob_grammar.specs.Parsed.{IsRightEnd}
use Rattle.ob_parse.proofs.ends.first_wrong_end.Given as goal

abbrev pub invariant-ends : goal.invariant-ends
invariant-ends l = All (IsRightEnd l.bytes l.tokens) (take l.name-index l.ends)
