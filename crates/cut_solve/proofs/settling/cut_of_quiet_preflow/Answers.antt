use Rattle.std.proofs.Common.{◌≡◌, ◌∙◌, ℕ, List, false, length, ap, sym, subst, arith}
use Rattle.std.proofs.lemmas.Bool.{both_ways}
use Rattle.std.proofs.lemmas.List.{get_or_default}
use Rattle.cut_net.specs.Network.{Network}
use Rattle.cut_part.proofs.CapacityReduction.{renumbering}
use Rattle.cut_preflow.specs.Preflow.{FlowNetwork}
use Rattle.cut_preflow.specs.Flows.{HasFlow, IsSinkUnreachable, network_on}
use Rattle.cut_preflow.specs.Trace.{state_of}
use Rattle.residual_graph.specs.declared.arc.Arc.{Arc}
use Rattle.cut_solve.specs.Settling.{arcs_with_flow}
use Rattle.cut_solve.proofs.Settled.{below_flow, carrying_between, carrying_within, settled_end, settled_flow, settled_greatest, IsSearched}
use Rattle.cut_solve.proofs.Started.{below_size}
use Rattle.cut_solve.proofs.settling.cut_of_quiet_preflow.Goals as goal
use Rattle.cut_solve.proofs.settling.cut_of_quiet_preflow.Goals.{After-deref, After-index}

-- what the preflow started on, as a network of the modules
module _ (net : Network) (a b : ℕ) (p : FlowNetwork) (nodes : p.nodes ≡ length net.names) where
  pub run_worker : p ≡ network_on (length net.names) p.imports p.source p.sink
  run_worker i = record { nodes = nodes i; imports = p.imports; source = p.source; sink = p.sink }

pub arcs_with_flow-requires-clause-imports : goal.arcs_with_flow-requires-clause-imports
arcs_with_flow-requires-clause-imports g c =
    let p = c.args.preflow.now.trace.net in
    below_size c.args.net.now c.args.from c.args.to c.invariants.ensures.network c.requires.ends p.imports p.source p.sink c.requires.start ∙ ap length (sym c.imports.ensures)

-- the imports of the network as arcs with this flow
abbrev AreCarrying : Network → List ℕ → List Arc → Type 0
AreCarrying net flow arcs = (length flow ≡ length net.imports) × (arcs ≡ arcs_with_flow net.imports flow)

carried : (g : _) (c : After-deref g) → AreCarrying c.args.net.now (state_of c.args.preflow.now.trace).flow c.in_ok-arcs.arcs.items
carried g c =
    let p = c.args.preflow.now.trace.net in (
      c.invariants-2.ensures.sound.kept.flows ∙ below_size c.args.net.now c.args.from c.args.to c.invariants.ensures.network c.requires.ends p.imports p.source p.sink c.requires.start,
      c.in_ok-arcs.ensures ∙ ap (λ v. arcs_with_flow v (state_of c.args.preflow.now.trace).flow) c.imports.ensures,
    )

pub flag_reachable-requires-clause-within : goal.flag_reachable-requires-clause-within
flag_reachable-requires-clause-within g c =
    let kept = c.invariants-2.ensures.sound.kept in
    let (same, arcs) = carried g (goal.at.flag_reachable-requires-clause-within g c).After-deref in
    rw (c.deref.ensures.value, arcs) (carrying_within c.args.net.now.imports (state_of c.args.preflow.now.trace).flow same (λ k h.
    let low = c.requires.start.reduced k in
    let fits = kept.fits k (omega (arith, kept.flows)) in
    omega arith))

pub flag_reachable-requires-clause-between : goal.flag_reachable-requires-clause-between
flag_reachable-requires-clause-between g c =
    let net = c.args.net.now in
    let (same, arcs) = carried g (goal.at.flag_reachable-requires-clause-between g c).After-deref in
    rw (c.nodes.ensures, c.deref.ensures.value, arcs)
    (carrying_between net.imports (state_of c.args.preflow.now.trace).flow (length net.names) same (λ k h. c.invariants.ensures.network.between _ (renumbering net.imports k h)))

searched : (g : _) (c : After-index g) → AreCarrying c.args.net.now (state_of c.args.preflow.now.trace).flow c.in_ok-arcs.arcs.items →
    IsSearched c.args.net.now c.args.from c.args.to (state_of c.args.preflow.now.trace).flow c.in_ok-source_side.source_side.items c.index.result.now
searched g c (same, arcs) =
    let reached = rw (c.nodes.ensures, c.deref.ensures.value, arcs) at c.in_ok-source_side.ensures.reached in
    record {
      same = same;
      reached = reached;
      closed = rw (c.deref.ensures.value, arcs) at c.in_ok-source_side.ensures.closed;
      end = sym (get_or_default c.in_ok-source_side.source_side.items c.args.to c.index.result.now false (omega (arith, reached.size, c.requires.ends.to_in))) ∙ sym c.index.ensures;
    }

pub minimum_cut-requires-clause-greatest : goal.minimum_cut-requires-clause-greatest
minimum_cut-requires-clause-greatest g c =
    let here = goal.at.minimum_cut-requires-clause-greatest g c in
    let net = c.args.net.now in
    let p = c.args.preflow.now.trace.net in
    let s = state_of c.args.preflow.now.trace in
    let flow = below_flow net c.args.from c.args.to c.invariants.ensures.network c.requires.ends p.imports p.source p.sink c.requires.start s
    (subst (λ (f : FlowNetwork). HasFlow f s) (run_worker net c.args.from c.args.to p c.requires.nodes) (c.invariants-2.ensures.flow c.requires.quiet)) in
    let arcs = carried g here.After-deref in
    rw (c.deref-3.ensures.value, c.in_ok-flow.ensures, c.deref-2.ensures.value, arcs.1)
    (settled_greatest net c.args.from c.args.to s.flow c.in_ok-source_side.source_side.items _ (searched g here.After-index arcs) c.invariants.ensures.network.imports_ascend c.requires.ends.from_in flow.0 flow.1 c.if-index.false)

pub returns-then-index-clause-found : goal.returns-then-index-clause-found
returns-then-index-clause-found g c = λ start.
    let here = goal.at.returns-then-index-clause-found g c in
    let net = c.args.net.now in
    let p = c.args.preflow.now.trace.net in
    let s = state_of c.args.preflow.now.trace in
    let whole = run_worker net c.args.from c.args.to p c.requires.nodes in
    let flow = settled_flow net c.args.from c.args.to c.invariants.ensures.network c.requires.ends p.imports p.source p.sink start s
    (subst (λ (f : FlowNetwork). HasFlow f s) whole (c.invariants-2.ensures.flow c.requires.quiet))
    (subst (λ (f : FlowNetwork). IsSinkUnreachable f s) whole (c.invariants-2.ensures.shut c.requires.quiet)) in
    absurd (both_ways _ (settled_end net c.args.from c.args.to s.flow c.in_ok-source_side.source_side.items _ (searched g here.After-index (carried g here.After-deref))
    c.invariants.ensures.network.imports_ascend c.requires.ends.from_in flow.1.barred) c.if-index.true)
