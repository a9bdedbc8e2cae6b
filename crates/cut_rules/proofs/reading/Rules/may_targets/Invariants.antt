use Rattle.std.proofs.Common.{◌≡◌, ◌<◌, ℕ, true, length, take, vec_len}
use Rattle.std.specs.Prelude.{◌↔◌}
use Rattle.digraph.specs.Marks.{marked}
use Rattle.cut_rules.specs.Judged.{IsForbiddenByMayRules}
use Rattle.cut_rules.proofs.reading.Rules.may_targets.Given as goal

abbrev pub invariant-loop-rule : goal.invariant-loop-rule
invariant-loop-rule l = record {
  size : vec_len l.flags ≡ length l.net.names;
  elements : (n : ℕ) → n < length l.net.names → (marked l.flags.items n ≡ true) ↔ IsForbiddenByMayRules l.self (take l.rule-index l.rule-items) l.first n;
}
