-- The incoming edges of each node, as a linked list from the last one back to the first.
use Rattle.std.specs.Prelude.{◌≡◌, ℕ, ◌+◌, ◌<◌, ◌≤◌, List, length, Contains}
use Rattle.digraph.specs.declared.edge.Edge.{Edge}
use Rattle.digraph.specs.Marks.{edge_at, index_at}
use Rattle.digraph.specs.LinkedLists.{AreLinkedLists, IsLast, IsInList}

-- `next` is the index plus one of the last edge to the node, among the first `count` edges; 0 if none leads to the node
abbrev pub IsLastTo : List Edge → ℕ → ℕ → ℕ → Type 0
IsLastTo edges v count next = IsLast (IsInList (λ k. (edge_at edges k).to) v) count next

-- the lists of the first count edges by target: for each node its last incoming edge, and for each edge the previous one to its target
abbrev pub AreIncoming : List Edge → ℕ → List ℕ → List ℕ → ℕ → Type 0
AreIncoming edges nodes last before count = AreLinkedLists (IsInList (λ k. (edge_at edges k).to)) nodes last before count

-- the list has each node whose current edge leads to v, and is no longer than the list of edges
pub record AreDependents (edges : List Edge) (places : List ℕ) (v : ℕ) (row : List ℕ) : Type 0 where
  pub all : (k : ℕ) → k < length edges → (edge_at edges k).to ≡ v → index_at places (edge_at edges k).from ≡ k → Contains row (edge_at edges k).from
  pub few : length row ≤ length edges

-- the list has the source of each current edge that leads to v and whose index is at least `next`
pub record AreDependentsFrom (edges : List Edge) (places : List ℕ) (v : ℕ) (row : List ℕ) (next : ℕ) : Type 0 where
  pub all : (k : ℕ) → next ≤ k → k < length edges → (edge_at edges k).to ≡ v → index_at places (edge_at edges k).from ≡ k → Contains row (edge_at edges k).from
  pub few : length row + next ≤ length edges
