use Rattle.std.proofs.Common.{arith, subst, ℕ, List}
use Rattle.std.specs.Prelude.{◌↔◌, Contains}
use Rattle.std.proofs.lemmas.List.{length-map}
use Rattle.std.proofs.lemmas.Result.{IfOk-weaker}
use Rattle.cut_net.specs.NetText.{IsNetOf}
use Rattle.cut_net.specs.Network.{Network}
use Rattle.ob_imports.specs.Files.{IsNode}
use Rattle.scopes.specs.Scoped.{ModuleScopes}
use Rattle.source_tree.specs.GraphNet.{graph_lines}
use Rattle.source_tree.specs.Trees.{file_of, files_of}
use Rattle.source_tree.proofs.TreeNet.{named_of_tree, names_named, net_of_tree}
use Rattle.source_tree.proofs.tree_reading.network_of_tree.Goals as goal

pub net_of_graph-requires-clause-as_many : goal.net_of_graph-requires-clause-as_many
net_of_graph-requires-clause-as_many c =
    let (sources, of) = c.requires in
    let many = of.read.as_many in
    let long = length-map of.files file_of in
    let count = of.kept.is_graph.modules in
    rw c.as_slice.ensures.value (omega arith)

pub net_of_graph-requires-clause-named : goal.net_of_graph-requires-clause-named
net_of_graph-requires-clause-named c =
    let (sources, of) = c.requires in
    names_named sources of.files c.args.tree.now.graph of.kept c.args.tree.now.scopes.items of.read

pub returns-clause-net : goal.returns-clause-net
returns-clause-net c sources of =
    let g = c.args.tree.now.graph in
    let ss = c.args.tree.now.scopes.items in
    IfOk-weaker c.net_of_graph.result _ _
    (λ net is. net_of_tree sources of.files g of.kept ss of.read c.weight_of_aliases.ensures c.invariants.ensures c.weight_is_unique.ensures of.acyclic net
    (subst (λ (all : List ModuleScopes). IsNetOf (graph_lines g all) net) c.as_slice.ensures.value is)) c.net_of_graph.ensures

pub returns-clause-named : goal.returns-clause-named
returns-clause-named c sources of =
    let g = c.args.tree.now.graph in
    let ss = c.args.tree.now.scopes.items in
    IfOk-weaker c.net_of_graph.result _ (λ (net : Network). (n : List ℕ) → Contains net.names n ↔ IsNode (files_of of.files) n)
    (λ net is. named_of_tree sources of.files g of.kept ss of.read c.weight_of_aliases.ensures c.invariants.ensures net (subst (λ (all : List ModuleScopes). IsNetOf (graph_lines g all) net) c.as_slice.ensures.value is)) c.net_of_graph.ensures
