use Rattle.std.proofs.Common.{◌≡◌, ◌++◌, take}
use Rattle.std.specs.String.{string_bytes}
use Rattle.byte_sink.proofs.Joining.{lines}
use Rattle.byte_sink.specs.Pieces.{WritesAllBut}
use Rattle.cut_rules.specs.Verdicts.{stale_line, stale_of}
use Rattle.cut_rules.proofs.verdict.RuleChecker.write_stale.Given as goal

abbrev pub invariant-loop-stale : goal.invariant-loop-stale
invariant-loop-stale g l = record {
  written : WritesAllBut (g.S.Sink.taken l.initial.sink) (g.S.Sink.taken l.sink) (string_bytes l.initial.lines.text ++ lines stale_of stale_line (take l.stale-index l.self.rules.now.stale.items)) (string_bytes l.lines.text);
  failures : g.S.Sink.failures l.sink ≡ g.S.Sink.failures l.initial.sink;
}
