use Rattle.std.proofs.Common.{◌≡◌, ◌<◌, ◌≤◌, ◌∙◌, ap, sym, subst}
use Rattle.std.specs.Prelude.{All}
use Rattle.residual_graph.specs.Graphs.{Graph}
use Rattle.cut_preflow.specs.FlowGraphs.{initial_arcs, flows_of, imports_of}
use Rattle.cut_preflow.specs.Preflow.{opening_flows}
use Rattle.cut_preflow.proofs.Graphs.{opened_between, opened_flows, opened_imports, opened_within}
use Rattle.cut_preflow.proofs.flow_graph.FlowGraph.initial_preflow.Goals as goal

pub new-requires-clause-within : goal.new-requires-clause-within
new-requires-clause-within c = subst (All (λ r. r.flow ≤ r.capacity)) (sym c.in_ok-arcs.ensures) (opened_within c.args.ends.source c.args.imports.now)

pub new-requires-clause-between : goal.new-requires-clause-between
new-requires-clause-between c =
    subst (All (λ r. (r.from < c.args.ends.nodes) × (r.to < c.args.ends.nodes))) (sym c.in_ok-arcs.ensures)
    (opened_between c.args.ends.source c.args.ends.nodes c.args.imports.now c.requires.between)

pub returns : goal.returns
returns c =
    let nodes = c.args.ends.nodes in
    let source = c.args.ends.source in
    let imports = c.args.imports.now in
    let whole : record { nodes = nodes; imports = imports_of (initial_arcs source imports); flow = flows_of (initial_arcs source imports) } ≡ record { nodes = nodes; imports = imports; flow = opening_flows source imports } =
    λ i. record { nodes = nodes; imports = opened_imports source imports i; flow = opened_flows source imports i } in
    ap (λ (g : Graph). record { nodes = g.nodes; imports = imports_of g.arcs; flow = flows_of g.arcs }) c.in_ok-graph.ensures
    ∙ ap (λ arcs. record { nodes = nodes; imports = imports_of arcs; flow = flows_of arcs }) c.in_ok-arcs.ensures
    ∙ whole
