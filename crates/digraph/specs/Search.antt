-- A breadth-first tree, given by the parent of each node, and one step of the search.
use Rattle.std.specs.Prelude.{◌≡◌, ◌≢◌, ◌⊎◌, ℕ, ◌+◌, ◌<◌, ◌≤◌, if◌then◌else◌, List, [], ◌∷◌, ◌++◌, length, Bool, false, Option, Some, None, is_some, sum_by, slice_index_or, AllPairs, Contains}
use Rattle.digraph.specs.declared.edge.Edge.{Edge}
use Rattle.digraph.specs.declared.search.Search.{Search}
use Rattle.digraph.specs.Edges.{Leads}
use Rattle.digraph.specs.Marks.{marked}
use Rattle.digraph.specs.ShortestPaths.{IsPathAround, IsShortestPath}

-- the parent of the node in the breadth-first tree; none past the end, and for a node that was not discovered
abbrev pub parent_of : List (Option ℕ) → ℕ → Option ℕ
parent_of parents v = slice_index_or parents v None

-- the parent of the node; none if the node has no parent or is its own parent
abbrev pub IsPredecessor : List (Option ℕ) → ℕ → Option ℕ → Type 0
IsPredecessor parents v (Some u) = (parent_of parents v ≡ Some u) × (v ≢ u)
IsPredecessor parents v None = (u : ℕ) → parent_of parents v ≡ Some u → v ≡ u

-- how many nodes have no parent
abbrev pub undiscovered : List (Option ℕ) → ℕ
undiscovered parents = sum_by (λ o. if is_some o then 0 else 1) parents

-- exactly the nodes with a parent have a path, and the shortest path of a node is that of its parent, followed by the node; a start is
-- its own parent
pub record IsSearch (edges : List Edge) (starts : List ℕ) (barrier : List Bool) (search : Search) : Type 0 where
  pub shortest : (v u : ℕ) → parent_of search.parents.items v ≡ Some u → (path : List ℕ) × IsShortestPath (Leads edges) starts barrier v path × (length path ≤ length search.parents.items)
  pub none : (v : ℕ) (path : List ℕ) → parent_of search.parents.items v ≡ None → IsPathAround (Leads edges) starts barrier v path → ⊥
  pub start : (v : ℕ) → parent_of search.parents.items v ≡ Some v → IsShortestPath (Leads edges) starts barrier v (v ∷ [])
  pub parent : (v u : ℕ) → parent_of search.parents.items v ≡ Some u → (w : ℕ) × (parent_of search.parents.items u ≡ Some w)
  pub step : (v u : ℕ) (path : List ℕ) → parent_of search.parents.items v ≡ Some u → v ≢ u → IsShortestPath (Leads edges) starts barrier u path → IsShortestPath (Leads edges) starts barrier v (path ++ v ∷ [])

-- each of `nodes` that had no parent and that the barrier doesn't flag now has the parent that `given` maps it to; `found` lists these
-- nodes, sorted
pub record AreDiscovered (nodes : List ℕ) (barrier : List Bool) (given : ℕ → ℕ) (old new : List (Option ℕ)) (found : List ℕ) : Type 0 where
  pub size : length new ≡ length old
  pub unchanged : (v u : ℕ) → parent_of old v ≡ Some u → parent_of new v ≡ Some u
  pub only : (v u : ℕ) → parent_of new v ≡ Some u → (parent_of old v ≡ Some u) ⊎ Contains found v
  pub found_are : (v : ℕ) → Contains found v → (parent_of old v ≡ None) × Contains nodes v × (marked barrier v ≡ false) × (parent_of new v ≡ Some (given v))
  pub are_found : (v : ℕ) → Contains nodes v → marked barrier v ≡ false → parent_of old v ≡ None → Contains found v
  pub ascending : AllPairs (λ x y. x < y) found
  pub count : undiscovered new + length found ≡ undiscovered old
