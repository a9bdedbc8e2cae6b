use Rattle.std.proofs.Common.{◌≡◌, ◌∙◌, length, sym, ap, subst}
use Rattle.std.specs.Prelude.{filter, map}
use Rattle.residual_graph.specs.Flows.{DifferInFlowOnly, IsBalanced}
use Rattle.residual_graph.specs.Graphs.{Graph, AreReached}
use Rattle.cut_solve.specs.MaximumFlow.{IsMaximumFlow}
use Rattle.cut_solve.specs.Lines.{arc_without_flow, has_flow, flow_line}
use Rattle.cut_solve.proofs.Answering.{greatest_for}
use Rattle.cut_solve.proofs.Flowing.{empty_balanced, same_imports}
use Rattle.cut_plain.proofs.solver.solve.Goals as goal

pub maximum_flow-requires-clause-balanced : goal.maximum_flow-requires-clause-balanced
maximum_flow-requires-clause-balanced c =
    let graph_is = ap (λ (g : Graph). g.arcs) c.in_ok-graph.ensures in
    subst (λ v. IsBalanced v c.args.from c.args.to 0) (sym graph_is) (empty_balanced c.args.net.now.imports c.args.from c.args.to)

pub minimum_cut-requires-clause-greatest : goal.minimum_cut-requires-clause-greatest
minimum_cut-requires-clause-greatest c =
    let net = c.args.net.now in
    let arcs = c.maximum_flow.new.graph.arcs in
    let graph_is : c.in_ok-graph.graph.arcs ≡ map arc_without_flow net.imports = ap (λ (g : Graph). g.arcs) c.in_ok-graph.ensures in
    let same = same_imports net.imports arcs (subst (λ v. DifferInFlowOnly v arcs) graph_is c.in_ok-source_side.ensures.same) in
    let nodes : c.maximum_flow.new.graph.nodes ≡ length net.names = c.in_ok-source_side.ensures.nodes ∙ ap (λ (g : Graph). g.nodes) c.in_ok-graph.ensures in
    let source_side = c.in_ok-source_side.source_side.reached_flags.items in
    let reached = subst (λ n. AreReached (record { nodes = n; arcs = arcs }) c.args.from source_side) nodes c.in_ok-source_side.ensures.reached in
    let lines = filter has_flow (map flow_line arcs) in
    let flow_is : c.in_ok-flow.flow.items ≡ lines = c.in_ok-flow.ensures ∙ ap (λ v. filter has_flow (map flow_line v)) c.arcs.ensures in
    let whole =
    greatest_for net arcs c.args.from c.args.to c.in_ok-source_side.ensures.balanced.0 same c.invariants.ensures.network.imports_ascend c.requires.from
    c.invariants-2.ensures.within c.in_ok-source_side.ensures.balanced.1 source_side reached c.in_ok-source_side.ensures.closed c.in_ok-source_side.ensures.end in
    subst (λ v. IsMaximumFlow net c.args.from c.args.to v c.in_ok-flow.flow.items) (sym c.deref.ensures.value)
    (subst (IsMaximumFlow net c.args.from c.args.to source_side) (sym flow_is) whole)
