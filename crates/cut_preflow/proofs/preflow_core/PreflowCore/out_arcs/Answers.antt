use Rattle.std.proofs.Common.{◌≡◌, ◌<◌, ◌*◌, map, ap, subst, arith}
use Rattle.std.specs.Prelude.{◌↔◌, All, Contains}
use Rattle.cut_preflow.specs.FlowGraphs.{IsArcFrom, out_arc_number}
use Rattle.cut_preflow.specs.Preflow.{count, tail}
use Rattle.cut_preflow.specs.Trace.{flow_graph_model_of}
use Rattle.cut_preflow.proofs.Fields.{reached_flags}
use Rattle.cut_preflow.proofs.Graphs.{numbers_are}
use Rattle.cut_preflow.proofs.preflow_core.PreflowCore.out_arcs.Goals as goal

pub out_arcs-requires : goal.out_arcs-requires
out_arcs-requires c =
    let nodes = ap (λ p. p.net.nodes) c.self.view_is in
    omega (arith, c.requires, nodes, c.self.invariant.1.nodes_are)

pub returns-clause-each : goal.returns-clause-each
returns-clause-each c =
    reached_flags c.self.inside c.self.invariant.0 c.args.self.now c.self.view_is (λ net s. All (IsArcFrom (flow_graph_model_of net s) c.args.node) c.out_arcs.result.now)
    (subst (λ n. All (IsArcFrom (record { nodes = n; imports = c.self.inside.graph.imports; flow = c.self.inside.graph.flow }) c.args.node) c.out_arcs.result.now) c.self.invariant.1.nodes_are c.out_arcs.ensures.each)

pub returns-clause-arcs : goal.returns-clause-arcs
returns-clause-arcs c a =
    subst (λ p. Contains (map out_arc_number c.out_arcs.result.now) a ↔ ((a < 2 * count p.net) × (tail p.net a ≡ c.args.node))) c.self.view_is
    (numbers_are c.self.inside.graph c.args.node c.out_arcs.result.now c.out_arcs.ensures.each c.out_arcs.ensures.all a)
