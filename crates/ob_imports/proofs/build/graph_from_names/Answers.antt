-- The graph of the files, or their cycle.
use Rattle.std.proofs.Common.{length, subst, arith}
use Rattle.std.specs.String.{string_bytes}
use Rattle.std.proofs.lemmas.List.{length-map}
use Rattle.digraph.specs.Chains.{IsAcyclic}
use Rattle.digraph.specs.Edges.{AreBetween, Leads}
use Rattle.digraph.proofs.SameGraphs.{acyclic_as}
use Rattle.ob_imports.specs.Files.{files_of, Imports}
use Rattle.ob_imports.specs.Graphs.{graph_with}
use Rattle.ob_imports.specs.Names.{texts, LeadsBy}
use Rattle.ob_imports.specs.Numbering.{AreEdgesOf}
use Rattle.ob_imports.specs.Outcomes.{IsCycleOf}
use Rattle.ob_imports.proofs.ByName.{acyclic_names, between_names}
use Rattle.ob_imports.proofs.KeptGraphs.{kept_graph}
use Rattle.ob_imports.proofs.Nodes.{nodes_apart, nodes_known}
use Rattle.ob_imports.proofs.build.graph_from_names.Goals as goal

pub order_by_name-requires-clause-few : goal.order_by_name-requires-clause-few
order_by_name-requires-clause-few c =
    let long = length-map c.args.names.keys string_bytes in
    let few = c.requires.few_names in
    rw c.as_slice.ensures.keys (omega arith)

pub order_by_name-requires-clause-once : goal.order_by_name-requires-clause-once
order_by_name-requires-clause-once c = rw c.as_slice.ensures.keys (nodes_apart (files_of c.args.parsed.now) (texts c.args.names.keys) c.requires.are_files.differ c.requires.is_graph.nodes)

pub find_cycle-requires-clause-between : goal.find_cycle-requires-clause-between
find_cycle-requires-clause-between c =
    let count = length-map c.args.names.keys string_bytes in
    rw (c.as_slice-2.ensures.value, c.as_slice-3.ensures.keys)
    (subst (AreBetween c.args.pairs.items) count (between_names (files_of c.args.parsed.now) (texts c.args.names.keys) c.args.pairs.items c.requires.is_graph.leads))

pub find_cycle-requires-clause-once : goal.find_cycle-requires-clause-once
find_cycle-requires-clause-once c = rw c.as_slice-3.ensures.keys (nodes_apart (files_of c.args.parsed.now) (texts c.args.names.keys) c.requires.are_files.differ c.requires.is_graph.nodes)

pub find_cycle-requires-clause-few : goal.find_cycle-requires-clause-few
find_cycle-requires-clause-few c =
    let long = length-map c.args.names.keys string_bytes in
    let few = c.requires.few_names in
    rw c.as_slice-3.ensures.keys (omega arith)

pub from_parts-requires-clause-graph : goal.from_parts-requires-clause-graph
from_parts-requires-clause-graph c =
    let files = files_of c.args.parsed.now in
    let names = texts c.args.names.keys in
    let pairs_acyclic : IsAcyclic (Leads c.args.pairs.items) = rw c.as_slice-2.ensures.value at (rw c.in-None.is at c.in_ok-find_cycle.ensures.none) in
    let none : IsAcyclic (Imports files) = acyclic_names files names (nodes_known files names c.requires.is_graph.nodes)
    (acyclic_as (Leads c.args.pairs.items) (LeadsBy (Imports files) names) c.requires.is_graph.leads pairs_acyclic) in
    kept_graph files (graph_with c.args.names.keys (length c.args.parsed.now) c.args.pairs.items) c.requires none

pub returns-in_ok-from_parts-in-None : goal.returns-in_ok-from_parts-in-None
returns-in_ok-from_parts-in-None c =
    let files = files_of c.args.parsed.now in
    let names = texts c.args.names.keys in
    let pairs_acyclic : IsAcyclic (Leads c.args.pairs.items) = rw c.as_slice-2.ensures.value at (rw c.in-None.is at c.in_ok-find_cycle.ensures.none) in
    let none : IsAcyclic (Imports files) = acyclic_names files names (nodes_known files names c.requires.is_graph.nodes)
    (acyclic_as (Leads c.args.pairs.items) (LeadsBy (Imports files) names) c.requires.is_graph.leads pairs_acyclic) in
    rw c.in_ok-from_parts-in-None.ensures (c.requires, none)

pub returns-in-Some : goal.returns-in-Some
returns-in-Some c =
    let files = files_of c.args.parsed.now in
    let led : AreEdgesOf files (texts c.as_slice-3.result.now) c.as_slice-2.result.now = rw (c.as_slice-3.ensures.keys, c.as_slice-2.ensures.value) c.requires.is_graph.leads in
    let cycle : IsCycleOf files (texts c.args.names.keys) (texts c.in-Some.names.items) = rw c.as_slice-3.ensures.keys at ((rw c.in-Some.is at c.in_ok-find_cycle.ensures.named) files led) in
    record { graph = graph_with c.args.names.keys (length c.args.parsed.now) c.args.pairs.items; kept = c.requires; is_cycle = cycle }
