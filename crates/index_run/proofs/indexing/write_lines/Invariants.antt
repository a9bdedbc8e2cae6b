-- The written bytes and the buffered ones are the lines so far.
use Rattle.std.proofs.Common.{◌≡◌, take, map}
use Rattle.std.specs.String.{string_bytes}
use Rattle.ob_board.specs.Unresolved.{unresolved_model}
use Rattle.texts.specs.Places.{style_of, writer_style}
use Rattle.byte_sink.specs.Pieces.{WritesAllBut}
use Rattle.index_run.specs.IndexRuns.{unresolved_lines}
use Rattle.index_run.proofs.indexing.write_lines.Given as goal

abbrev pub invariant-loop-row : goal.invariant-loop-row
invariant-loop-row g l = record {
  gathered : WritesAllBut (g.S.Sink.taken l.initial.sink) (g.S.Sink.taken l.sink) (unresolved_lines (style_of l.style) (map unresolved_model (take l.row-index l.rows))) (string_bytes l.text);
  style : writer_style l.writer ≡ style_of l.style;
  failures : g.S.Sink.failures l.sink ≡ g.S.Sink.failures l.initial.sink;
}
