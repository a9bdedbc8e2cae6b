use Rattle.std.proofs.Common.{◌≡◌, ◌≤◌, ℕ, List, length}
use Rattle.cut_rules.specs.RuleLines.{pieces_of}
use Rattle.cut_rules.specs.Rules.{IsRule}
use Rattle.cut_rules.specs.Names.{AreLinesOf}
use Rattle.cut_rules.proofs.NameLaws.{AreNotedWithin}
use Rattle.cut_rules.proofs.names.rule_names.Given as goal

abbrev pub invariant-loop-piece : goal.invariant-loop-piece
invariant-loop-piece l = record {
  few : l.rules ≤ length l.yielded;
  counted : (lines : List ℕ) × AreLinesOf (IsRule (pieces_of l.bytes)) (length l.yielded) lines × (length lines ≡ l.rules);
  noted : AreNotedWithin l.net (pieces_of l.bytes) (length l.yielded) l.names.keys;
}
