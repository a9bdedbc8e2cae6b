use Rattle.std.proofs.Common.{◌≡◌, ◌+◌, ◌≤◌, length}
use Rattle.cut_report.specs.ReportLines.{IsPrefix}
use Rattle.cut_report.specs.Builders.{builder_state_of}
use Rattle.cut_report.proofs.Standings.{standing_lines}
use Rattle.cut_report.proofs.reader.read_lines.Given as goal

abbrev pub invariant-loop-line : goal.invariant-loop-line
invariant-loop-line l = record {
  prefix : IsPrefix l.net l.bytes (standing_lines l.net (builder_state_of l.builder)) l.rest;
  count : l.before ≡ length (standing_lines l.net (builder_state_of l.builder));
  room : l.before + length l.rest ≤ length l.bytes;
}

abbrev pub decreases-loop-line : goal.decreases-loop-line
decreases-loop-line l = length l.rest
