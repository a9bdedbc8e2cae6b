use Rattle.std.proofs.Common.{◌≡◌}
use Rattle.residual_graph.specs.Flows.{DifferInFlowOnly}
use Rattle.cut_plain.specs.Levels.{IsDescent, RaisesOrKeeps}
use Rattle.cut_plain.proofs.blocking.blocking_flow.Given as goal

abbrev pub invariant-loop : goal.invariant-loop
invariant-loop l = record {
  nodes : l.graph.nodes ≡ l.fn.graph.nodes;
  same : DifferInFlowOnly l.fn.graph.arcs l.graph.arcs;
  rises : RaisesOrKeeps l.fn.graph.arcs l.graph.arcs l.from l.to;
  descent : IsDescent l.graph l.levels l.to l.descent.current.items l.descent.path.items l.descent.at;
}
