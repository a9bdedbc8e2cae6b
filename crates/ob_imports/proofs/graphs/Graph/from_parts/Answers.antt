-- The adjacency lists are those of the graph.
use Rattle.std.proofs.Common.{◌≡◌, length, ◌∙◌, subst, arith}
use Rattle.std.specs.String.{string_bytes}
use Rattle.std.proofs.lemmas.List.{length-map}
use Rattle.ob_imports.specs.Names.{texts}
use Rattle.digraph.specs.Edges.{AreBetween}
use Rattle.ob_imports.proofs.graphs.Graph.from_parts.Goals as goal

pub adjacency_lists-requires : goal.adjacency_lists-requires
adjacency_lists-requires c =
    let long = length-map c.args.names.keys string_bytes in
    let nodes : length (texts c.args.names.keys) ≡ c.len.result = (let e = c.len.ensures.len in omega arith) in
    record { between = rw c.as_slice.ensures.value (subst (AreBetween c.args.pairs.items) nodes c.requires.graph.between) }

pub invariant_of-result : goal.invariant_of-result
invariant_of-result c = (
  c.requires.graph,
  c.in_ok-imports.ensures.imports_long ∙ c.len.ensures.len,
  c.in_ok-imports.ensures.importers_long ∙ c.len.ensures.len,
  c.requires.order,
  λ v. rw c.as_slice.ensures.value at (c.in_ok-imports.ensures.imports v),
  λ v. rw c.as_slice.ensures.value at (c.in_ok-imports.ensures.importers v),
)
