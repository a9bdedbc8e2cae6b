-- The edges are the reversed imports.
use Rattle.std.proofs.Common.{◌<◌, ◌∙◌, ℕ, ap, map, subst}
use Rattle.std.specs.Prelude.{All, IfOk}
use Rattle.std.proofs.lemmas.Result.{IfOk-weaker}
use Rattle.digraph.specs.Edges as edges
use Rattle.cut_net.specs.Cuts.{Any, Imports}
use Rattle.cut_net.specs.Lines.{edge_of}
use Rattle.cut_report.proofs.Reached.{acyclic_back, imports_between, imports_reversed, reaches_back, AreReversed}
use Rattle.cut_report.proofs.reach.reaching_modules.Goals as goal

pub reachable_nodes-requires-clause-between : goal.reachable_nodes-requires-clause-between
reachable_nodes-requires-clause-between c =
    let given = c.as_slice.ensures.value ∙ c.in_ok-edges.ensures ∙ ap (map edge_of) c.imports.ensures in
    rw (c.as_slice-2.ensures.value, c.nodes.ensures)
    (imports_between c.args.net.now.imports _ _ c.sort_and_dedup.new.edges.items c.in_ok-reversed.ensures given c.sort_and_dedup.ensures.same _ c.invariants.ensures.network.between)

pub reachable_nodes-requires-clause-acyclic : goal.reachable_nodes-requires-clause-acyclic
reachable_nodes-requires-clause-acyclic c =
    let imports = c.args.net.now.imports in
    let given = c.as_slice.ensures.value ∙ c.in_ok-edges.ensures ∙ ap (map edge_of) c.imports.ensures in
    let reversed : AreReversed (edges.Leads c.as_slice-2.result.now) (Imports imports Any) =
    rw c.as_slice-2.ensures.value (imports_reversed imports _ _ c.sort_and_dedup.new.edges.items c.in_ok-reversed.ensures given c.sort_and_dedup.ensures.same) in
    acyclic_back (edges.Leads c.as_slice-2.result.now) (Imports imports Any) (λ m n. (reversed m n).0) c.invariants.ensures.network.acyclic

pub returns-clause-exact : goal.returns-clause-exact
returns-clause-exact c =
    let imports = c.args.net.now.imports in
    let given = c.as_slice.ensures.value ∙ c.in_ok-edges.ensures ∙ ap (map edge_of) c.imports.ensures in
    let leads = edges.Leads c.as_slice-2.result.now in
    let reversed : AreReversed leads (Imports imports Any) =
    rw c.as_slice-2.ensures.value (imports_reversed imports _ _ c.sort_and_dedup.new.edges.items c.in_ok-reversed.ensures given c.sort_and_dedup.ensures.same) in
    IfOk-weaker c.reachable_nodes.result _ _ (λ reaching exact n. (
      λ has. reaches_back leads (Imports imports Any) (λ i j. (reversed i j).0) c.args.to n ((exact n).0 has),
      λ reaches. (exact n).1 (reaches_back (Imports imports Any) leads (λ i j. (reversed j i).1) n c.args.to reaches),
    )) c.reachable_nodes.ensures.exact

pub returns-clause-within : goal.returns-clause-within
returns-clause-within c = subst (λ (count : ℕ). IfOk c.reachable_nodes.result (λ reaching. All (λ n. n < count) reaching.items)) c.nodes.ensures c.reachable_nodes.ensures.within
