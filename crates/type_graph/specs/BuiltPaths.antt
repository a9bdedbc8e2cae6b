-- The invariant of the heavy paths of a graph.
use Rattle.std.specs.Prelude.{ℕ, List, Option}
use Rattle.type_graph.specs.declared.paths.HeavyPaths.{HeavyPaths}
use Rattle.type_graph.specs.declared.shape.Shape.{Shape}
use Rattle.type_graph.specs.PathOrder.{ArePaths}

module _ {N D R F : Type 0} (shape : N → Shape N D R) (base : R → Option N) (field : R → List ℕ → Option F) where
  -- these heavy paths satisfy `ArePaths` for the graph
  abbrev pub AreHeavyPaths : HeavyPaths R → Type 0
  AreHeavyPaths l = ArePaths shape base field l.records.keys l.ends.items l.field_entries.items
