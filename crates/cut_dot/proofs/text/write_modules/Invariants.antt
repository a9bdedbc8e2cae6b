-- The written bytes and the buffered ones are the earlier buffer and the lines so far.
use Rattle.std.proofs.Common.{◌≡◌, ◌++◌}
use Rattle.std.specs.List.{range_with_len}
use Rattle.std.specs.String.{string_bytes}
use Rattle.byte_sink.specs.Pieces.{WritesAllBut}
use Rattle.residual_graph.specs.Graphs.{is_flagged}
use Rattle.cut_dot.specs.Pictures.{is_drawn}
use Rattle.cut_dot.specs.Texts.{line_of_module}
use Rattle.cut_dot.proofs.Passing.{lines}
use Rattle.cut_dot.proofs.text.write_modules.Given as goal

abbrev pub invariant-loop-node : goal.invariant-loop-node
invariant-loop-node g l = record {
  gathered : WritesAllBut (g.S.Sink.taken l.initial.sink) (g.S.Sink.taken l.sink)
      (string_bytes l.initial.text ++ lines (line_of_module l.net l.from l.to (is_flagged l.reached)) (is_drawn l.from l.to (is_flagged l.marks)) (range_with_len 0 l.node)) (string_bytes l.text);
  failures : g.S.Sink.failures l.sink ≡ g.S.Sink.failures l.initial.sink;
}
