-- The written bytes and the buffered ones are the lines of the locations so far.
use Rattle.std.proofs.Common.{◌≡◌, ℕ, List, ◌++◌, map, take}
use Rattle.std.specs.Io.KnownBytes.{Appends}
use Rattle.std.specs.String.{string_bytes}
use Rattle.texts.specs.Places.{style_of, writer_style}
use Rattle.index_store.specs.Queries.{location_model}
use Rattle.index_store.specs.Lines.{location_lines}
use Rattle.index_store.proofs.lines.write_lines.Given as goal

abbrev pub invariant-loop-location : goal.invariant-loop-location
invariant-loop-location g l = record {
  taken : (done : List ℕ) × (location_lines (style_of l.style) (map location_model (take l.location-index l.locations)) ≡ done ++ string_bytes l.text) × Appends (g.S.Sink.taken l.initial.sink) (g.S.Sink.taken l.sink) done;
  style : writer_style l.writer ≡ style_of l.style;
  failures : g.S.Sink.failures l.sink ≡ g.S.Sink.failures l.initial.sink;
}
