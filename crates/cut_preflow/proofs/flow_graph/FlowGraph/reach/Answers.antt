use Rattle.std.proofs.Common.{◌<◌, ◌∙◌, ap, sym, subst}
use Rattle.cut_preflow.specs.FlowGraphs.{FlowGraphModel}
use Rattle.cut_preflow.specs.Side.{IsReachableSet}
use Rattle.cut_preflow.proofs.Graphs.{reach_is}
use Rattle.cut_preflow.proofs.flow_graph.FlowGraph.reach.Goals as goal

pub returns-clause-size : goal.returns-clause-size
returns-clause-size c = c.in_ok-found.ensures.reached.size ∙ ap (λ (g : FlowGraphModel). g.nodes) c.self.view_is

pub returns-clause-reach : goal.returns-clause-reach
returns-clause-reach c =
    let g = c.self.inside.graph in
    let low = subst (λ (v : FlowGraphModel). c.args.source < v.nodes) (sym c.self.view_is) c.requires in
    subst (λ (v : FlowGraphModel). IsReachableSet v.imports v.flow c.args.source c.in_ok-found.found.reached_flags.items) c.self.view_is
    (reach_is g.nodes g.arcs c.args.source c.in_ok-found.found.reached_flags.items low c.in_ok-found.ensures.reached c.in_ok-found.ensures.closed)
