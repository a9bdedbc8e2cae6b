use Rattle.std.proofs.Common.{◌-◌, ◌^◌}
use Rattle.type_graph.specs.Caches.{IsValidFieldCache}
use Rattle.type_graph.specs.Progress.{progress}
use Rattle.type_graph.proofs.Extending.{Climbs}
use Rattle.type_graph.proofs.records.field_of.Given as goal

abbrev pub invariant-records : goal.invariant-records
invariant-records g l = record {
  cache : IsValidFieldCache (g.G.TypeGraph.shape l.graph) (g.G.TypeGraph.base_of l.graph) g.G.Declaration.PartialEq.eq g.G.Record.PartialEq.eq (g.G.TypeGraph.field_of l.graph) l.cache;
  climbs : Climbs (g.G.TypeGraph.shape l.graph) (g.G.TypeGraph.base_of l.graph) (λ r. g.G.TypeGraph.field_of l.graph r l.name) g.G.Record.PartialEq.eq g.met.G.TypeGraph.eq_is_identity l.fn.from l.«record» l.detector.checkpoints.items;
}

abbrev pub decreases-records : goal.decreases-records
decreases-records g l = 2 ^ 65 - progress l.detector
