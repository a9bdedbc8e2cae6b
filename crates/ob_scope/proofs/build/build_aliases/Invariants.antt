use Rattle.ob_scan.specs.Texts.{text_at}
use Rattle.ob_scope.specs.Found.{AreAliasesOf}
use Rattle.ob_scope.proofs.build.build_aliases.Given as goal

abbrev pub invariant-loop-i : goal.invariant-loop-i
invariant-loop-i l = AreAliasesOf (text_at l.text.bytes.now l.text.tokens.now) l.members l.counts l.imports l.i l.aliases.items
