use Rattle.std.proofs.Common.{◌≡◌, ◌∙◌, ap, ap₂, subst, filter, map, length, List, ℕ}
use Rattle.cut_net.specs.declared.priced.Priced.{Priced}
use Rattle.residual_graph.specs.declared.arc.Arc.{Arc}
use Rattle.residual_graph.specs.Graphs.{AreClosed, AreReached, Graph}
use Rattle.cut_part.specs.Marks.{unit_capacity_arc}
use Rattle.cut_part.proofs.Marking.{are_chained, open_between, open_within}
use Rattle.cut_dot.specs.Pictures.{is_not_removed}
use Rattle.cut_dot.proofs.Staying.{some_between, still_reached}
use Rattle.cut_dot.proofs.reached.flag_reached.Goals as goal

pub new-requires-clause-within : goal.new-requires-clause-within
new-requires-clause-within c = rw c.in_ok-arcs.ensures (open_within (filter (is_not_removed c.args.removed.now) c.imports.result.now))

pub new-requires-clause-between : goal.new-requires-clause-between
new-requires-clause-between c =
    rw (c.in_ok-arcs.ensures, c.imports.ensures, c.nodes.ensures)
    (open_between (filter (is_not_removed c.args.removed.now) c.args.net.now.imports) (length c.args.net.now.names)
    (some_between (is_not_removed c.args.removed.now) c.args.net.now.imports (length c.args.net.now.names) c.invariants.ensures.network.between))

pub returns-clause-reached : goal.returns-clause-reached
returns-clause-reached c =
    let net = c.args.net.now in
    let removed = c.args.removed.now in
    let imports = filter (is_not_removed removed) net.imports in
    let marks = c.in_ok-found.found.reached_flags.items in
    let arcs_are : c.in_ok-arcs.arcs.items ≡ map unit_capacity_arc imports = c.in_ok-arcs.ensures ∙ ap (λ (v : List Priced). map unit_capacity_arc (filter (is_not_removed removed) v)) c.imports.ensures in
    let graph_is : c.in_ok-graph.graph ≡ record { nodes = length net.names; arcs = map unit_capacity_arc imports } =
    c.in_ok-graph.ensures ∙ ap₂ (λ (n : ℕ) (arcs : List Arc). record { nodes = n; arcs = arcs }) c.nodes.ensures arcs_are in
    let reached = subst (λ (g : Graph). AreReached g c.args.start marks) graph_is c.in_ok-found.ensures.reached in
    let closed = subst (λ (g : Graph). AreClosed g.arcs marks) graph_is c.in_ok-found.ensures.closed in
    still_reached net.imports removed c.args.start marks (are_chained imports (length net.names) c.args.start marks c.requires.start reached closed)
