use Rattle.std.proofs.Common.{◌≡◌, ◌+◌, ◌-◌, ◌/◌, ◌∙◌, if◌then◌else◌, get_or, set, slice_index, slice_set, ap}
use Rattle.residual_graph.specs.declared.arc.ResidualArc.{ResidualArc}
use Rattle.residual_graph.specs.Flows.{pushed}
use Rattle.residual_graph.specs.Graphs.{no_arc}
use Rattle.cut_preflow.specs.FlowGraphs.{FlowGraphModel, flows_of, imports_of}
use Rattle.cut_preflow.specs.Preflow.{is_forward}
use Rattle.cut_preflow.proofs.Graphs.{sent, sent_flows, sent_imports}
use Rattle.cut_preflow.proofs.flow_graph.FlowGraph.send.Goals as goal

pub returns : goal.returns
returns c =
    let arcs = c.self.inside.graph.arcs in
    let nodes = c.self.inside.graph.nodes in
    let a = c.args.arc in
    let amount = c.args.amount in
    let new_arcs : c.send.new.self.arcs ≡ sent arcs a amount =
    c.send.ensures.arcs ∙ ap (λ (s : ResidualArc). set arcs s.arc (pushed (get_or arcs s.arc no_arc) s.forward amount)) c.step_of.ensures in
    let one : record { nodes = c.send.new.self.nodes; imports = imports_of c.send.new.self.arcs; flow = flows_of c.send.new.self.arcs } ≡ record { nodes = nodes; imports = imports_of (sent arcs a amount); flow = flows_of (sent arcs a amount) } =
    λ i. record { nodes = c.send.ensures.nodes i; imports = imports_of (new_arcs i); flow = flows_of (new_arcs i) } in
    let two : record { nodes = nodes; imports = imports_of (sent arcs a amount); flow = flows_of (sent arcs a amount) } ≡
    record { nodes = nodes; imports = imports_of arcs; flow = slice_set (flows_of arcs) (a / 2) (if is_forward a then slice_index (flows_of arcs) (a / 2) + amount else slice_index (flows_of arcs) (a / 2) - amount) } =
    λ i. record { nodes = nodes; imports = sent_imports arcs a amount i; flow = sent_flows arcs a amount i } in
    one
    ∙ two
    ∙ ap (λ (g : FlowGraphModel). record { nodes = g.nodes; imports = g.imports; flow = slice_set g.flow (a / 2) (if is_forward a then slice_index g.flow (a / 2) + amount else slice_index g.flow (a / 2) - amount) }) c.self.view_is
