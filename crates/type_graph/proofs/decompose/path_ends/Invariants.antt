use Rattle.std.proofs.Common.{◌≡◌, ◌≤◌, length}
use Rattle.type_graph.specs.PathOrder.{AreEnds}
use Rattle.type_graph.proofs.decompose.path_ends.Given as goal

abbrev pub invariant-places : goal.invariant-places
invariant-places g l = record {
  low : l.slot ≤ length l.paths;
  same : length l.ends.items ≡ length l.paths;
  are_ends : AreEnds (g.G.TypeGraph.shape l.graph) (g.G.TypeGraph.base_of l.graph) l.slot l.paths l.ends.items;
}

abbrev pub decreases-places : goal.decreases-places
decreases-places g l = l.slot
