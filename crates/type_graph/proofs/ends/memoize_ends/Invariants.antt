use Rattle.type_graph.specs.Link.{AreTypeEnds}
use Rattle.type_graph.proofs.ends.memoize_ends.Given as goal

abbrev pub invariant-loop-declaration : goal.invariant-loop-declaration
invariant-loop-declaration g l = AreTypeEnds (g.G.TypeGraph.shape l.graph) l.pointers g.G.Declaration.PartialEq.eq l.memo
