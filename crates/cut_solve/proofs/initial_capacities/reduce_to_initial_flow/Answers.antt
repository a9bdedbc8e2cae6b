use Rattle.std.proofs.Common.{◌≡◌, ◌∙◌, ◌<◌, ◌≤◌, ap, map, sym, subst}
use Rattle.std.specs.Prelude.{All}
use Rattle.cut_net.specs.WellFormed.{AreBetween}
use Rattle.residual_graph.specs.declared.arc.Arc.{Arc}
use Rattle.residual_graph.specs.Flows.{DifferInFlowOnly}
use Rattle.residual_graph.specs.Graphs.{Graph}
use Rattle.cut_solve.specs.Lines.{arc_without_flow, flow_line}
use Rattle.cut_solve.specs.Starts.{IsReducedFrom}
use Rattle.cut_solve.proofs.Flowing.{empty_between, empty_within, same_imports}
use Rattle.cut_solve.proofs.Lower.{flows_lower}
use Rattle.cut_solve.proofs.initial_capacities.reduce_to_initial_flow.Goals as goal

pub new-requires-clause-within : goal.new-requires-clause-within
new-requires-clause-within c = subst (All (λ (r : Arc). r.flow ≤ r.capacity)) (sym c.in_ok-arcs.ensures) (empty_within c.deref.result.now)

pub new-requires-clause-between : goal.new-requires-clause-between
new-requires-clause-between c =
    subst (All (λ (r : Arc). (r.from < c.args.nodes) × (r.to < c.args.nodes))) (sym c.in_ok-arcs.ensures)
    (empty_between c.deref.result.now c.args.nodes (subst (λ v. AreBetween v c.args.nodes) (sym c.deref.ensures.value) c.requires.between))

pub returns-clause-imports : goal.returns-clause-imports
returns-clause-imports c =
    let start = c.args.start.now.imports.items in
    let tried = c.in_ok-tried.tried in
    let graph : c.in_ok-graph.graph.arcs ≡ map arc_without_flow start =
    ap (λ (g : Graph). g.arcs) c.in_ok-graph.ensures ∙ c.in_ok-arcs.ensures ∙ ap (map arc_without_flow) c.deref.ensures.value in
    let same = same_imports start tried.arcs (subst (λ v. DifferInFlowOnly v tried.arcs) graph c.in_ok-tried.ensures.same) in
    let lines : c.in_ok-imports.imports.items ≡ map flow_line tried.arcs = c.in_ok-imports.ensures ∙ ap (map flow_line) c.arcs.ensures in
    subst (IsReducedFrom start) (sym lines) (flows_lower start tried.arcs same c.invariants.ensures.within)
