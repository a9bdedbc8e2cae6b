use Rattle.std.proofs.Common.{List, sym, subst}
use Rattle.std.specs.List.{All}
use Rattle.type_graph.specs.Link.{IsTypeEndOf}
use Rattle.type_graph.proofs.ends.find_end.Goals as goal

pub memoize_ends-requires-clause-checkpoints : goal.memoize_ends-requires-clause-checkpoints
memoize_ends-requires-clause-checkpoints g c =
    subst (λ (ds : List g.row.G-Declaration.Denot). All (IsTypeEndOf (g.G.TypeGraph.shape c.args.graph.now) c.args.pointers g.G.Declaration.PartialEq.eq c.in_ok-end.end) ds) (sym c.as_slice.ensures.value) c.in_ok-end.ensures.each
