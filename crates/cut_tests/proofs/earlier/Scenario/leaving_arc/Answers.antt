use Rattle.std.proofs.Common.{get_or, subst}
use Rattle.residual_graph.specs.Graphs.{Graph}
use Rattle.residual_graph.specs.OutArcs.{IsOutOf, no_out_arc}
use Rattle.cut_tests.proofs.earlier.Scenario.leaving_arc.Goals as goal

pub returns-then-place-outs : goal.returns-then-place-outs
returns-then-place-outs c =
    let outs = c.residual_arcs-outs.result.now in
    subst (λ (g : Graph). IsOutOf g c.args.node (get_or outs c.args.place no_out_arc)) c.self.view_is
    (c.residual_arcs-outs.ensures.each c.args.place no_out_arc c.if-place-outs.true)
