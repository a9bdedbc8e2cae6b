use Rattle.std.proofs.Common.{take}
use Rattle.source_tree.specs.Crossings.{AreSpans}
use Rattle.source_tree.proofs.crossing.crossing_spans.Given as goal

abbrev pub invariant-loop-crossing : goal.invariant-loop-crossing
invariant-loop-crossing l = AreSpans l.bytes l.tokens (take l.crossing-index l.crossings) l.spans.items
