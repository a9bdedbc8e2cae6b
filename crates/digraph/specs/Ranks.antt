-- Ranks of nodes: their indices in an order.
use Rattle.std.specs.Prelude.{◌≡◌, ℕ, ◌<◌, List, length, slice_index, Contains}
use Rattle.digraph.specs.declared.edge.Edge.{Edge}

-- the inverse of the order
pub record AreRanks (order ranks : List ℕ) : Type 0 where
  pub size : length ranks ≡ length order
  pub places : (v : ℕ) → Contains order v → (slice_index ranks v < length order) × (slice_index order (slice_index ranks v) ≡ v)

-- the edge with its nodes replaced by their ranks
abbrev pub by_ranks : List ℕ → Edge → Edge
by_ranks ranks p = record { from = slice_index ranks p.from; to = slice_index ranks p.to }
