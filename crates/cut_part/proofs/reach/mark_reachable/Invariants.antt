use Rattle.std.proofs.Common.{◌≡◌, vec_len}
use Rattle.digraph.specs.Spreading.{left_over}
use Rattle.cut_part.specs.Reach.{IsSpreading}
use Rattle.cut_part.proofs.reach.mark_reachable.Given as goal

abbrev pub invariant-loop-importer : goal.invariant-loop-importer
invariant-loop-importer l = record {
  size : vec_len l.marks ≡ l.modules;
  spreading : IsSpreading l.imports l.start l.marks.items l.waiting.items;
}

abbrev pub decreases-loop-importer : goal.decreases-loop-importer
decreases-loop-importer l = left_over l.marks.items l.waiting.items
