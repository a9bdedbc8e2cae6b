use Rattle.std.proofs.Common.{◌≡◌, ◌<◌, ◌∙◌, List, length, sym, subst, arith, false, true}
use Rattle.std.proofs.lemmas.List.{get_or_default}
use Rattle.residual_graph.specs.declared.arc.Arc.{Arc}
use Rattle.residual_graph.specs.Graphs.{AreClosed, AreReached, is_flagged}
use Rattle.residual_graph.proofs.Walking.{reaches_itself}
use Rattle.cut_check.specs.Reaching.{AreArcs}
use Rattle.cut_check.proofs.ChainPaths.{arcs_between, chain_from_path, marked_by_chain}
use Rattle.cut_check.proofs.checking.has_chain.Goals as goal

pub flag_reachable-requires-clause-between : goal.flag_reachable-requires-clause-between
flag_reachable-requires-clause-between c =
    rw c.deref.ensures.value (arcs_between c.imports.result.now c.args.allowed.now c.nodes.result c.in_ok-arcs.arcs.items c.in_ok-arcs.ensures
    (rw (c.imports.ensures, c.nodes.ensures) c.invariants.ensures.network.between))

pub returns : goal.returns
returns c =
    let imports = c.args.net.now.imports in
    let allowed = c.args.allowed.now in
    let to = c.args.to in
    let reached_flags = c.in_ok-reached_flags.reached_flags in
    let arcs = c.in_ok-arcs.arcs.items in
    let are : AreArcs imports allowed arcs = subst (λ v. AreArcs v allowed arcs) c.imports.ensures c.in_ok-arcs.ensures in
    let reached = subst (λ (v : List Arc). AreReached (record { nodes = c.nodes.result; arcs = v }) c.args.from reached_flags.items) c.deref.ensures.value c.in_ok-reached_flags.ensures.reached in
    let closed = subst (λ (v : List Arc). AreClosed v reached_flags.items) c.deref.ensures.value c.in_ok-reached_flags.ensures.closed in
    let count = c.nodes.ensures in
    let from_asked = c.requires.from in
    let to_asked = c.requires.to in
    let size = reached.size in
    let in_seen : to < length reached_flags.items = omega arith in
    let at : c.index.result.now ≡ is_flagged reached_flags.items to = c.index.ensures ∙ get_or_default reached_flags.items to c.index.result.now false in_seen in
    let started : is_flagged reached_flags.items c.args.from ≡ true = (reached.each c.args.from).1 (omega arith, reaches_itself arcs c.args.from) in (
      λ marked. chain_from_path imports allowed c.nodes.result arcs are c.args.from to ((reached.each to).0 (sym at ∙ marked)).1,
      λ (more, chain). at ∙ marked_by_chain imports allowed c.nodes.result arcs are reached_flags.items closed c.args.from more to started chain,
    )
