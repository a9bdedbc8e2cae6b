-- The written bytes and the buffered ones are the earlier buffer and the lines so far.
use Rattle.std.proofs.Common.{◌≡◌, ◌++◌, take, map}
use Rattle.std.specs.String.{string_bytes}
use Rattle.byte_sink.specs.Pieces.{WritesAllBut}
use Rattle.cut_net.specs.NetReading.{import_line}
use Rattle.cut_report.specs.NetLines.{ended_lines}
use Rattle.cut_report.proofs.net_writer.write_imports.Given as goal

abbrev pub invariant-loop-import : goal.invariant-loop-import
invariant-loop-import g l = record {
  gathered : WritesAllBut (g.S.Sink.taken l.initial.sink) (g.S.Sink.taken l.sink) (string_bytes l.initial.text ++ ended_lines (map (import_line l.net.names) (take l.import-index l.imports))) (string_bytes l.text);
  failures : g.S.Sink.failures l.sink ≡ g.S.Sink.failures l.initial.sink;
}
