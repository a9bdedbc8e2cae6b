use Rattle.std.proofs.Common.{◌≡◌}
use Rattle.residual_graph.specs.Flows.{DifferInFlowOnly}
use Rattle.residual_graph.proofs.Augmenting.{Augmenting}
use Rattle.residual_graph.proofs.graph.ResidualGraph.send_along.Given as goal

abbrev pub invariant-loop-step : goal.invariant-loop-step
invariant-loop-step l = record {
  nodes : l.self.nodes ≡ l.fn.self.nodes;
  made : Augmenting l.fn.self.arcs l.self.arcs l.path l.amount l.step-index;
  same : DifferInFlowOnly l.fn.self.arcs l.self.arcs;
}
