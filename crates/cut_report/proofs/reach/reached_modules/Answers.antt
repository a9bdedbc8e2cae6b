-- The edges are the imports.
use Rattle.std.proofs.Common.{◌<◌, ℕ, map, subst}
use Rattle.std.specs.Prelude.{All, IfOk}
use Rattle.std.proofs.lemmas.Result.{IfOk-weaker}
use Rattle.digraph.specs.Edges as edges
use Rattle.digraph.proofs.SameGraphs.{acyclic_as, AreSame}
use Rattle.cut_net.proofs.Cycles.{pairs_ascend, pairs_between, same_graph}
use Rattle.cut_net.specs.Cuts.{Any, Imports}
use Rattle.cut_net.specs.Lines.{edge_of}
use Rattle.cut_report.proofs.Reached.{reaches_as}
use Rattle.cut_report.proofs.reach.reached_modules.Goals as goal

pub reachable_nodes-requires-clause-between : goal.reachable_nodes-requires-clause-between
reachable_nodes-requires-clause-between c = rw (c.as_slice.ensures.value, c.in_ok-edges.ensures, c.imports.ensures, c.nodes.ensures) (pairs_between c.args.net.now.imports _ c.invariants.ensures.network.between)

pub reachable_nodes-requires-clause-ascending : goal.reachable_nodes-requires-clause-ascending
reachable_nodes-requires-clause-ascending c = rw (c.as_slice.ensures.value, c.in_ok-edges.ensures, c.imports.ensures) (pairs_ascend c.args.net.now.imports c.invariants.ensures.network.imports_ascend)

pub reachable_nodes-requires-clause-acyclic : goal.reachable_nodes-requires-clause-acyclic
reachable_nodes-requires-clause-acyclic c =
    let imports = c.args.net.now.imports in
    rw (c.as_slice.ensures.value, c.in_ok-edges.ensures, c.imports.ensures)
    (acyclic_as (Imports imports Any) (edges.Leads (map edge_of imports)) (λ m n. ((same_graph imports m n).1, (same_graph imports m n).0)) c.invariants.ensures.network.acyclic)

pub returns-clause-exact : goal.returns-clause-exact
returns-clause-exact c =
    let imports = c.args.net.now.imports in
    let leads = edges.Leads c.as_slice.result.now in
    let same : AreSame leads (Imports imports Any) = rw (c.as_slice.ensures.value, c.in_ok-edges.ensures, c.imports.ensures) (same_graph imports) in
    IfOk-weaker c.reachable_nodes.result _ _ (λ reached exact n.
    let both = reaches_as leads (Imports imports Any) same c.args.from n in
    (λ has. both.0 ((exact n).0 has), λ reaches. (exact n).1 (both.1 reaches))) c.reachable_nodes.ensures.exact

pub returns-clause-within : goal.returns-clause-within
returns-clause-within c = subst (λ (count : ℕ). IfOk c.reachable_nodes.result (λ reached. All (λ n. n < count) reached.items)) c.nodes.ensures c.reachable_nodes.ensures.within
