use Rattle.std.proofs.Common.{◌≡◌, ◌<◌, ◌≤◌, ◌∙◌, List, sym, subst}
use Rattle.std.specs.Prelude.{All, map}
use Rattle.residual_graph.specs.declared.arc.Arc.{Arc}
use Rattle.residual_graph.specs.Graphs.{AreClosed, AreReached}
use Rattle.cut_solve.specs.Lines.{reversed_arc_of}
use Rattle.cut_solve.proofs.Far.{chains, reversed_between, reversed_within}
use Rattle.cut_solve.proofs.reporting.sink_side_of.Goals as goal

pub flag_reachable-requires-clause-within : goal.flag_reachable-requires-clause-within
flag_reachable-requires-clause-within c = subst (All (λ (r : Arc). r.flow ≤ r.capacity)) (sym (c.deref.ensures.value ∙ c.in_ok-arcs.ensures)) (reversed_within c.args.source_side.now c.args.imports.now)

pub flag_reachable-requires-clause-between : goal.flag_reachable-requires-clause-between
flag_reachable-requires-clause-between c =
    subst (All (λ (r : Arc). (r.from < c.args.nodes) × (r.to < c.args.nodes))) (sym (c.deref.ensures.value ∙ c.in_ok-arcs.ensures))
    (reversed_between c.args.source_side.now c.args.imports.now c.args.nodes c.requires.between)

pub returns-clause-sink_side : goal.returns-clause-sink_side
returns-clause-sink_side c =
    let source_side = c.args.source_side.now in
    let imports = c.args.imports.now in
    let arcs : c.deref.result.now ≡ map (reversed_arc_of source_side) imports = c.deref.ensures.value ∙ c.in_ok-arcs.ensures in
    chains imports source_side c.args.nodes c.args.to c.in_ok-sink_side.sink_side.items c.requires.to
    (subst (λ (v : List Arc). AreReached (record { nodes = c.args.nodes; arcs = v }) c.args.to c.in_ok-sink_side.sink_side.items) arcs c.in_ok-sink_side.ensures.reached)
    (subst (λ (v : List Arc). AreClosed v c.in_ok-sink_side.sink_side.items) arcs c.in_ok-sink_side.ensures.closed)
