use Rattle.std.proofs.Common.{sym, ◌∙◌, arith}
use Rattle.ob_scan.specs.Spelling.{blank}
use Rattle.ob_scan.proofs.lexeme.first_lexeme.Goals as goal

pub returns-then-begins_blank : goal.returns-then-begins_blank
returns-then-begins_blank c = (blank (sym c.begins_blank.ensures ∙ c.if-begins_blank.true), omega arith, omega arith)
