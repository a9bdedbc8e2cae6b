-- The pairs are the edges of the imports.
use Rattle.std.proofs.lemmas.Option.{IfSome_then}
use Rattle.std.proofs.lemmas.Result.{IfOk-weaker}
use Rattle.digraph.specs.Edges as edges
use Rattle.digraph.proofs.SameGraphs.{AreSame, acyclic_as, names_as}
use Rattle.cut_net.proofs.Cycles.{IfNone_then, pairs_ascend, pairs_between, same_graph}
use Rattle.cut_net.specs.Cuts.{Any, Imports}
use Rattle.cut_net.proofs.cycle.find_canonical_cycle.Goals as goal

pub find_canonical_cycle-requires-clause-between : goal.find_canonical_cycle-requires-clause-between
find_canonical_cycle-requires-clause-between c = rw (c.as_slice.ensures.value, c.in_ok-pairs.ensures) (pairs_between c.args.imports.now c.args.nodes c.requires.between)

pub find_canonical_cycle-requires-clause-ascending : goal.find_canonical_cycle-requires-clause-ascending
find_canonical_cycle-requires-clause-ascending c = rw (c.as_slice.ensures.value, c.in_ok-pairs.ensures) (pairs_ascend c.args.imports.now c.requires.ascending)

pub returns-clause-named : goal.returns-clause-named
returns-clause-named c =
    let imports = c.args.imports.now in
    let same : AreSame (edges.Leads c.as_slice.result.now) (Imports imports Any) = rw (c.as_slice.ensures.value, c.in_ok-pairs.ensures) (same_graph imports) in
    IfOk-weaker c.find_canonical_cycle.result _ _
    (λ answer h. IfSome_then answer h (λ cycle n. names_as (edges.Leads c.as_slice.result.now) (Imports imports Any) same cycle.items n)) c.find_canonical_cycle.ensures.named

pub returns-clause-none : goal.returns-clause-none
returns-clause-none c =
    let imports = c.args.imports.now in
    let same : AreSame (edges.Leads c.as_slice.result.now) (Imports imports Any) = rw (c.as_slice.ensures.value, c.in_ok-pairs.ensures) (same_graph imports) in
    IfOk-weaker c.find_canonical_cycle.result _ _
    (λ answer. IfNone_then answer (acyclic_as (edges.Leads c.as_slice.result.now) (Imports imports Any) same)) c.find_canonical_cycle.ensures.none
