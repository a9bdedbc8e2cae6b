use Rattle.type_graph.specs.Caches.{IsValidParentCache}
use Rattle.type_graph.proofs.decompose.parent_slots.Given as goal

abbrev pub invariant-loop-record : goal.invariant-loop-record
invariant-loop-record g l = IsValidParentCache (g.G.TypeGraph.shape l.graph) (g.G.TypeGraph.base_of l.graph) g.G.Declaration.PartialEq.eq g.G.Record.PartialEq.eq l.cache
