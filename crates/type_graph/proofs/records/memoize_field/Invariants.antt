use Rattle.type_graph.specs.Extending.{AreFieldsMemoized}
use Rattle.type_graph.proofs.records.memoize_field.Given as goal

abbrev pub invariant-loop-record : goal.invariant-loop-record
invariant-loop-record g l = AreFieldsMemoized (g.G.TypeGraph.shape l.graph) (g.G.TypeGraph.base_of l.graph) (g.G.TypeGraph.field_of l.graph) g.G.Record.PartialEq.eq l.found
