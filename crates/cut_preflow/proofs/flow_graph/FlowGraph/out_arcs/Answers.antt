use Rattle.std.proofs.Common.{◌≡◌, ◌<◌, ◌*◌, map, length, get_or, subst}
use Rattle.std.specs.Prelude.{Contains}
use Rattle.cut_preflow.specs.FlowGraphs.{FlowGraphModel, IsArcFrom, out_arc_number}
use Rattle.cut_preflow.specs.Preflow.{tail_in}
use Rattle.cut_preflow.proofs.Graphs.{arc_from, arcs_all}
use Rattle.cut_preflow.proofs.flow_graph.FlowGraph.out_arcs.Goals as goal

pub returns-clause-each : goal.returns-clause-each
returns-clause-each c k d low =
    let a = get_or c.residual_arcs.result.now k d in
    subst (λ (g : FlowGraphModel). IsArcFrom g c.args.node a) c.self.view_is
    (arc_from c.self.inside.graph.nodes c.self.inside.graph.arcs c.args.node a (c.residual_arcs.ensures.each k d low))

pub returns-clause-all : goal.returns-clause-all
returns-clause-all c a =
    subst (λ (g : FlowGraphModel). a < 2 * length g.imports → tail_in g.imports a ≡ c.args.node → Contains (map out_arc_number c.residual_arcs.result.now) a) c.self.view_is
    (arcs_all c.self.inside.graph.nodes c.self.inside.graph.arcs c.args.node c.residual_arcs.result.now c.residual_arcs.ensures.all a)
