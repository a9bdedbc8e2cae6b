-- The successors are the predecessors along the reversed edges.
use Rattle.std.proofs.Common.{List, sym, ap, ◌∙◌, subst}
use Rattle.digraph.specs.declared.edge.Edge.{Edge}
use Rattle.digraph.specs.Edges.{predecessors, AreBetween}
use Rattle.digraph.proofs.ByNode.{flipped_between, predecessors_flipped}
use Rattle.digraph.proofs.graph.successor_lists.Goals as goal

pub predecessor_lists-requires : goal.predecessor_lists-requires
predecessor_lists-requires c = record {
  between = subst (λ (es : List Edge). AreBetween es c.args.nodes) (sym (c.as_slice.ensures.value ∙ c.in_ok-rotated.ensures)) (flipped_between c.args.edges.now c.args.nodes c.requires.between);
}

pub returns-clause-rows : goal.returns-clause-rows
returns-clause-rows c v =
    c.in_ok-rows.ensures.rows v ∙ ap (λ (es : List Edge). predecessors es v) (c.as_slice.ensures.value ∙ c.in_ok-rotated.ensures) ∙ predecessors_flipped c.args.edges.now v
