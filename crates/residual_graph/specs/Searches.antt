-- The result of a search.
use Rattle.std.specs.Prelude.{ℕ}
use Rattle.residual_graph.specs.declared.found.SearchResult.{SearchResult}
use Rattle.residual_graph.specs.Graphs.{Graph}
use Rattle.residual_graph.specs.Trees.{IsTree}

-- the result is that of a search of this graph from the start: its visits form a tree of residual arcs with capacity
pub record IsSearchOf (g : Graph) (start : ℕ) (found : SearchResult) : Type 0 where
  pub tree : IsTree g start found.reached_flags.items found.visits.items
