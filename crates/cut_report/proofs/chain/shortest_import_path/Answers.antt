-- The edges are those of the imports.
use Rattle.std.proofs.lemmas.Option.{IfSome_then}
use Rattle.std.proofs.lemmas.Result.{IfOk-weaker}
use Rattle.digraph.specs.Edges as edges
use Rattle.digraph.proofs.SameGraphs.{chain_as, AreSame}
use Rattle.cut_net.proofs.Cycles.{IfNone_then, pairs_ascend, pairs_between, same_graph}
use Rattle.cut_net.specs.Cuts.{Any, Imports}
use Rattle.cut_report.proofs.ChainImports.{least_as}
use Rattle.cut_report.proofs.chain.shortest_import_path.Goals as goal

pub shortest_path-requires-clause-between : goal.shortest_path-requires-clause-between
shortest_path-requires-clause-between c = rw (c.as_slice.ensures.value, c.in_ok-edges.ensures, c.imports.ensures, c.nodes.ensures) (pairs_between c.args.net.now.imports _ c.invariants.ensures.network.between)

pub shortest_path-requires-clause-ascending : goal.shortest_path-requires-clause-ascending
shortest_path-requires-clause-ascending c = rw (c.as_slice.ensures.value, c.in_ok-edges.ensures, c.imports.ensures) (pairs_ascend c.args.net.now.imports c.invariants.ensures.network.imports_ascend)

pub returns-clause-found : goal.returns-clause-found
returns-clause-found c =
    let imports = c.args.net.now.imports in
    let same : AreSame (edges.Leads c.as_slice.result.now) (Imports imports Any) = rw (c.as_slice.ensures.value, c.in_ok-edges.ensures, c.imports.ensures) (same_graph imports) in
    IfOk-weaker c.shortest_path.result _ _
    (λ answer h. IfSome_then answer h (λ chain n. least_as (edges.Leads c.as_slice.result.now) (Imports imports Any) same c.args.from c.args.to chain.items n)) c.shortest_path.ensures.found

pub returns-clause-none : goal.returns-clause-none
returns-clause-none c =
    let imports = c.args.net.now.imports in
    let same : AreSame (edges.Leads c.as_slice.result.now) (Imports imports Any) = rw (c.as_slice.ensures.value, c.in_ok-edges.ensures, c.imports.ensures) (same_graph imports) in
    IfOk-weaker c.shortest_path.result _ _
    (λ answer. IfNone_then answer (λ none (more, chain). none (more, chain_as (edges.Leads c.as_slice.result.now) (Imports imports Any) same c.args.from more c.args.to chain)))
    c.shortest_path.ensures.none
