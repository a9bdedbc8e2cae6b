-- The written bytes and the buffered ones are the lines so far.
use Rattle.std.proofs.Common.{◌≡◌, map, take}
use Rattle.std.specs.String.{string_bytes}
use Rattle.byte_sink.specs.Pieces.{WritesAllBut}
use Rattle.oscip_run.specs.ModuleRuns.{entry_lines, entry_of}
use Rattle.texts.specs.Places.{style_of}
use Rattle.oscip_run.proofs.listing.write_lines.Given as goal

abbrev pub invariant-loop-listed : goal.invariant-loop-listed
invariant-loop-listed g l = record {
  gathered : WritesAllBut (g.S.Sink.taken l.initial.sink) (g.S.Sink.taken l.sink) (entry_lines (style_of l.style) (map entry_of (take l.listed-index l.modules))) (string_bytes l.text);
  failures : g.S.Sink.failures l.sink ≡ g.S.Sink.failures l.initial.sink;
}
