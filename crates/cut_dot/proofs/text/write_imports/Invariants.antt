-- The written bytes and the buffered ones are the earlier buffer and the lines so far.
use Rattle.std.proofs.Common.{◌≡◌, ◌++◌, take}
use Rattle.std.specs.String.{string_bytes}
use Rattle.byte_sink.specs.Pieces.{WritesAllBut}
use Rattle.cut_part.specs.Subnetworks.{are_ends_in}
use Rattle.residual_graph.specs.Graphs.{is_flagged}
use Rattle.cut_dot.specs.Texts.{line_of_import}
use Rattle.cut_dot.proofs.Passing.{lines}
use Rattle.cut_dot.proofs.text.write_imports.Given as goal

abbrev pub invariant-loop-import : goal.invariant-loop-import
invariant-loop-import g l = record {
  gathered : WritesAllBut (g.S.Sink.taken l.initial.sink) (g.S.Sink.taken l.sink)
      (string_bytes l.initial.text ++ lines (line_of_import l.net l.removed l.flow) (are_ends_in (is_flagged l.marks)) (take l.import-index l.imports)) (string_bytes l.text);
  failures : g.S.Sink.failures l.sink ≡ g.S.Sink.failures l.initial.sink;
}
