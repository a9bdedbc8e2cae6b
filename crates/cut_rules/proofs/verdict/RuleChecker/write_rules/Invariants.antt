use Rattle.std.proofs.Common.{◌≡◌, ◌++◌, ℕ, List}
use Rattle.std.specs.Prelude.{not}
use Rattle.std.specs.List.{flat_map}
use Rattle.std.specs.String.{string_bytes}
use Rattle.texts.specs.Places.{writer_style}
use Rattle.byte_sink.specs.Pieces.{WritesAllBut}
use Rattle.cut_rules.specs.declared.file.File.{File}
use Rattle.cut_rules.specs.Judged.{AreViolationsBelow, IsRuleCountBefore}
use Rattle.cut_rules.specs.Outcomes.{AreRulesOf}
use Rattle.cut_rules.specs.Verdicts.{is_none, violation_line, Violation}
use Rattle.cut_rules.proofs.verdict.RuleChecker.write_rules.Given as goal

abbrev pub invariant-loop-rule : goal.invariant-loop-rule
invariant-loop-rule g l = record {
  style : writer_style l.lines.places ≡ writer_style l.initial.lines.places;
  written : (files : List File) (pieces : List (List ℕ)) → AreRulesOf l.self.net.now files pieces l.self.rules.now →
      (bound : ℕ) × (violations : List Violation) × IsRuleCountBefore l.self.rules.now.rules.items l.rule-index bound × AreViolationsBelow l.self.net.now files pieces bound violations × (l.any ≡ not (is_none violations))
      × WritesAllBut (g.S.Sink.taken l.initial.sink) (g.S.Sink.taken l.sink) (string_bytes l.initial.lines.text ++ flat_map (violation_line (writer_style l.initial.lines.places) l.self.net.now l.self.sites.now) violations) (string_bytes l.lines.text);
  failures : g.S.Sink.failures l.sink ≡ g.S.Sink.failures l.initial.sink;
}
