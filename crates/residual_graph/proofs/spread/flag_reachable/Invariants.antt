use Rattle.std.proofs.Common.{◌≡◌, vec_len}
use Rattle.digraph.specs.Spreading.{left_over}
use Rattle.residual_graph.specs.Spreading.{IsSpreading}
use Rattle.residual_graph.proofs.spread.flag_reachable.Given as goal

abbrev pub invariant-loop-node : goal.invariant-loop-node
invariant-loop-node l = record {
  size : vec_len l.reached_flags ≡ l.nodes;
  spreading : IsSpreading l.arcs l.start l.reached_flags.items l.waiting.items;
}

abbrev pub decreases-loop-node : goal.decreases-loop-node
decreases-loop-node l = left_over l.reached_flags.items l.waiting.items
