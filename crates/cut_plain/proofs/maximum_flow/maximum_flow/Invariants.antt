use Rattle.std.proofs.Common.{ℕ, ◌≡◌, ◌-◌, vec_len}
use Rattle.residual_graph.specs.Flows.{DifferInFlowOnly, IsBalanced}
use Rattle.residual_graph.specs.Graphs.{AreClosed, AreReached}
use Rattle.residual_graph.specs.Searches.{IsSearchOf}
use Rattle.cut_plain.proofs.Measure.{total, value_of}
use Rattle.cut_plain.proofs.maximum_flow.maximum_flow.Given as goal

abbrev pub invariant-loop-alloc : goal.invariant-loop-alloc
invariant-loop-alloc l = record {
  nodes : l.graph.nodes ≡ l.fn.graph.nodes;
  same : DifferInFlowOnly l.fn.graph.arcs l.graph.arcs;
  balanced : (value : ℕ) × IsBalanced l.graph.arcs l.from l.to value;
  levels : vec_len l.found.levels ≡ l.graph.nodes;
  tree : IsSearchOf l.graph l.from l.found;
  reached : AreReached l.graph l.from l.found.reached_flags.items;
  shut : AreClosed l.graph.arcs l.found.reached_flags.items;
}

abbrev pub decreases-loop-alloc : goal.decreases-loop-alloc
decreases-loop-alloc l = total l.graph.arcs - value_of l.graph.arcs l.from
