use Rattle.std.proofs.Common.{◌<◌, take}
use Rattle.std.specs.Prelude.{Contains}
use Rattle.cut_rules.specs.declared.rule.Rule.{Rule}
use Rattle.cut_rules.specs.Judged.{IsMayOf}
use Rattle.cut_rules.proofs.reading.Rules.is_repeated.Given as goal

abbrev pub invariant-loop-other : goal.invariant-loop-other
invariant-loop-other l = (s : Rule) → Contains (take l.other-index l.other-items) s → s.line < l.rule.line → IsMayOf s l.rule.first → ⊥
