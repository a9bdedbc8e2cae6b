use Rattle.std.proofs.Common.{◌+◌, ◌-◌, ◌*◌, ◌^◌}
use Rattle.type_graph.specs.Progress.{progress}
use Rattle.type_graph.proofs.Link.{Walks}
use Rattle.type_graph.proofs.ends.walk_to_end.Given as goal

abbrev pub invariant-types : goal.invariant-types
invariant-types g l = Walks (g.G.TypeGraph.shape l.graph) l.pointers g.G.Declaration.PartialEq.eq (g.met.G.TypeGraph.named l.graph) l.fn.from l.node l.detector.checkpoints.items

abbrev pub decreases-types : goal.decreases-types
decreases-types g l = (2 ^ 65 - progress l.detector) * g.G.TypeGraph.height l.graph + g.G.TypeGraph.depth l.graph l.node
