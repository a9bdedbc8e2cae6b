use Rattle.type_graph.proofs.Hopping.{AreAdded}
use Rattle.type_graph.proofs.decompose.collect_fields.Given as goal

abbrev pub invariant-loop-field : goal.invariant-loop-field
invariant-loop-field g l = AreAdded (g.G.TypeGraph.shape l.graph) (g.G.TypeGraph.base_of l.graph) (g.G.TypeGraph.field_of l.graph) g.G.Record.PartialEq.eq l.paths.keys l.field-items l.field-index l.field_entries.items
