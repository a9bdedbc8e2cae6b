-- Shortest paths, of several the lexicographically smallest.
use Rattle.std.specs.Prelude.{◌≡◌, ◌≢◌, ℕ, ◌≤◌, List, [], ◌∷◌, length, Bool, false, All, Contains}
use Rattle.std.specs.Ordering.{nat_cmp}
use Rattle.std.specs.Cmp.Lexicographic.{slice_cmp}
use Rattle.std.specs.declared.cmp.Ordering.TheVariants.{Greater}
use Rattle.digraph.specs.declared.edge.Edge.{Edge}
use Rattle.digraph.specs.Chains.{IsChain}
use Rattle.digraph.specs.Edges.{Leads}
use Rattle.digraph.specs.Marks.{marked}

-- of the lists of nodes with the property the shortest, of several the lexicographically smallest
pub record IsLeastOf (Are : List ℕ → Type 0) (chain : List ℕ) : Type 0 where
  pub is_chain : Are chain
  pub fewest : (other : List ℕ) → Are other → length chain ≤ length other
  pub least : (other : List ℕ) → Are other → length other ≡ length chain → slice_cmp nat_cmp chain other ≢ Greater

module _ (Leads : ℕ → ℕ → Type 0) (a b : ℕ) where
  -- these nodes are a path from a to b
  abbrev pub AreChain : List ℕ → Type 0
  AreChain [] = ⊥
  AreChain (m ∷ more) = (m ≡ a) × IsChain Leads m more b

  -- the shortest path from a to b, of several the lexicographically smallest
  abbrev pub IsLeastChain : List ℕ → Type 0
  IsLeastChain chain = IsLeastOf AreChain chain

-- a path with this number of edges leads from v to the end
abbrev pub HasChain : List Edge → ℕ → ℕ → ℕ → Type 0
HasChain edges v end count = (more : List ℕ) × IsChain (Leads edges) v more end × (length more ≡ count)

module _ (Leads : ℕ → ℕ → Type 0) (starts : List ℕ) (barrier : List Bool) (end : ℕ) where
  -- these nodes are a path from a start to the end around the barrier: the barrier flags none of them but possibly the first
  abbrev pub IsPathAround : List ℕ → Type 0
  IsPathAround [] = ⊥
  IsPathAround (m ∷ more) = Contains starts m × IsChain Leads m more end × All (λ n. marked barrier n ≡ false) more

  -- the shortest path from a start to the end around the barrier, of several the lexicographically smallest
  abbrev pub IsShortestPath : List ℕ → Type 0
  IsShortestPath path = IsLeastOf IsPathAround path
