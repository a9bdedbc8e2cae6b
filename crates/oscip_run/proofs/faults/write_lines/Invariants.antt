-- The written bytes and the buffered ones are the lines so far.
use Rattle.std.proofs.Common.{◌≡◌, take}
use Rattle.std.specs.String.{string_bytes}
use Rattle.byte_sink.specs.Pieces.{WritesAllBut}
use Rattle.texts.specs.Places.{style_of}
use Rattle.oscip_run.specs.FaultRuns.{fault_lines}
use Rattle.oscip_run.proofs.faults.write_lines.Given as goal

abbrev pub invariant-loop-fault : goal.invariant-loop-fault
invariant-loop-fault g l = record {
  gathered : WritesAllBut (g.S.Sink.taken l.initial.sink) (g.S.Sink.taken l.sink) (fault_lines (style_of l.style) (take l.fault-index l.faults)) (string_bytes l.text);
  failures : g.S.Sink.failures l.sink ≡ g.S.Sink.failures l.initial.sink;
}
