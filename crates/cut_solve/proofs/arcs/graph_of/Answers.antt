use Rattle.std.proofs.Common.{◌<◌, ◌≤◌, length, sym, subst}
use Rattle.std.specs.Prelude.{All}
use Rattle.cut_net.specs.WellFormed.{AreBetween}
use Rattle.residual_graph.specs.declared.arc.Arc.{Arc}
use Rattle.cut_solve.proofs.Flowing.{empty_between, empty_within}
use Rattle.cut_solve.proofs.arcs.graph_of.Goals as goal

pub new-requires-clause-within : goal.new-requires-clause-within
new-requires-clause-within c = subst (All (λ (r : Arc). r.flow ≤ r.capacity)) (sym c.in_ok-arcs.ensures) (empty_within c.imports.result.now)

pub new-requires-clause-between : goal.new-requires-clause-between
new-requires-clause-between c =
    let between = subst (λ v. AreBetween v (length c.args.net.now.names)) (sym c.imports.ensures) c.invariants.ensures.network.between in
    subst (All (λ (r : Arc). (r.from < c.nodes.result) × (r.to < c.nodes.result))) (sym c.in_ok-arcs.ensures)
    (empty_between c.imports.result.now c.nodes.result (subst (AreBetween c.imports.result.now) (sym c.nodes.ensures) between))
