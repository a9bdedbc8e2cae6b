use Rattle.std.proofs.Common.{◌≡◌, map}
use Rattle.source_tree.specs.GraphNet.{graph_entry, ranked, AreLight}
use Rattle.source_tree.proofs.GraphTables.{before_of}
use Rattle.source_tree.proofs.from_graph.weighted_imports.Given as goal

abbrev pub invariant-loop-from : goal.invariant-loop-from
invariant-loop-from l = record {
  entries : l.imports.items ≡ map (ranked l.ranks) (map (graph_entry l.graph l.scopes) (before_of l.from l.graph.pairs));
  light : AreLight (map (graph_entry l.graph l.scopes) (before_of l.from l.graph.pairs));
}
