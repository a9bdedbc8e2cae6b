use Rattle.std.proofs.Common.{false, true}
use Rattle.type_graph.proofs.Extending.{above_none, found_none}
use Rattle.type_graph.proofs.Link.{keeps_none}
use Rattle.type_graph.proofs.finder.Finder.new.Goals as goal

pub invariant_of-result : goal.invariant_of-result
invariant_of-result g c =
    let shape = g.G.TypeGraph.shape c.args.graph.now in
    let same = g.G.Declaration.PartialEq.eq in (
      keeps_none shape false same c.empty.result c.empty.ensures,
      record {
        parents = record {
          ends = keeps_none shape true same c.empty-2.result c.empty-2.ensures;
          parents = above_none shape (g.G.TypeGraph.base_of c.args.graph.now) g.G.Record.PartialEq.eq g.met.G.TypeGraph.eq_is_identity c.empty-3.result c.empty-3.ensures;
        };
        paths = tt;
        fields = found_none shape (g.G.TypeGraph.base_of c.args.graph.now) (g.G.TypeGraph.field_of c.args.graph.now) g.G.Record.PartialEq.eq g.met.G.TypeGraph.eq_is_identity c.with_hasher.result c.with_hasher.ensures.empty;
      },
    )
