use Rattle.std.proofs.Common.{◌≡◌, ◌∙◌, refl, sym, ap, subst}
use Rattle.cut_preflow.specs.FlowGraphs.{FlowGraphModel}
use Rattle.cut_preflow.specs.Indexed.{IsIndexed}
use Rattle.cut_preflow.specs.Preflow.{into, opening, opening_flows}
use Rattle.cut_preflow.specs.Trace.{IsTrace, flow_network, state_with}
use Rattle.cut_preflow.proofs.Saturating.{opening_indexed}
use Rattle.cut_preflow.proofs.preflow_core.new_core.Goals as goal

pub invariant_of-result : goal.invariant_of-result
invariant_of-result c =
    let ends = c.args.ends in
    let imports = c.args.imports.items in
    let net = flow_network ends imports in
    let labels = c.in_ok-labels.ensures in
    let initial_preflow : c.in_ok-graph.graph ≡ record { nodes = ends.nodes; imports = imports; flow = opening_flows ends.source imports } =
    c.in_ok-graph.ensures ∙ ap (λ xs. record { nodes = ends.nodes; imports = xs; flow = opening_flows ends.source xs }) c.as_slice.ensures.value in
    let state : record { flow = opening_flows ends.source imports; label = c.in_ok-labels.labels.items } ≡ opening net = λ i. record { flow = opening_flows ends.source imports; label = labels i } in
    let at = opening_indexed ends imports ends.nodes c.in_ok-excesses.excesses.each.items c.in_ok-excesses.excesses.active refl
    (λ v ne. c.in_ok-excesses.ensures.each v ne ∙ ap (λ xs. into xs (opening_flows ends.source xs) v) c.as_slice-2.ensures.value) c.in_ok-excesses.ensures.active in
    subst (λ (g : FlowGraphModel). IsTrace (flow_network ends g.imports) g.flow c.in_ok-labels.labels.items c.new-2.result.items × IsIndexed (flow_network ends g.imports) (state_with g.flow c.in_ok-labels.labels.items) g.nodes c.in_ok-excesses.excesses.each.items c.in_ok-excesses.excesses.active) (sym initial_preflow)
    (rw (c.new-2.ensures.items) (
      (record { network = c.requires.network; limits = c.requires.limits; flows_are = refl; labels_are = labels; legal = refl }),
      (subst (λ s. IsIndexed net s ends.nodes c.in_ok-excesses.excesses.each.items c.in_ok-excesses.excesses.active) (sym state) at),
    ))
