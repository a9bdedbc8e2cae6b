-- The candidate set of the cycle search. Nodes leave it until each candidate has an edge to a candidate. Edges are sorted, so the edges
-- of a node are adjacent.
use Rattle.std.specs.Prelude.{◌≡◌, ℕ, ◌+◌, ◌*◌, ◌<◌, ◌≤◌, ◌⊎◌, List, [], ◌∷◌, length, map, slice_index_or, Bool, true, false, Contains, Vec}
use Rattle.std.specs.declared.alloc.Global.{Global}
use Rattle.digraph.specs.declared.edge.Edge.{Edge}
use Rattle.digraph.specs.Cycle.{EachLeadsToMember}
use Rattle.digraph.specs.Edges.{Leads}

-- the default for an index past the end of a list of edges
abbrev pub missing_item : Edge
missing_item = record { from = 0; to = 0 }

-- the edge at this index; `missing_item` past the end
abbrev pub edge_at : List Edge → ℕ → Edge
edge_at edges k = slice_index_or edges k missing_item

-- the node's flag; false past the end
abbrev pub marked : List Bool → ℕ → Bool
marked marks v = slice_index_or marks v false

-- the number of set flags
abbrev pub mark_count : List Bool → ℕ
mark_count [] = 0
mark_count (true ∷ marks) = mark_count marks + 1
mark_count (false ∷ marks) = mark_count marks

-- no edge from index `place` on has a source below v
abbrev pub StartsFrom : List Edge → ℕ → ℕ → Type 0
StartsFrom edges v place = (k : ℕ) → place ≤ k → k < length edges → v ≤ (edge_at edges k).from

-- the node's edges with an index from start up to end lead to nodes that are no candidates
abbrev pub ArePassed : List Edge → List Bool → ℕ → ℕ → ℕ → Type 0
ArePassed edges marks v start end =
    (k : ℕ) → start ≤ k → k < end → k < length edges → (edge_at edges k).from ≡ v → marked marks (edge_at edges k).to ≡ false

-- the edge at this index leads from v to a candidate
pub record LeadsToMarked (edges : List Edge) (marks : List Bool) (v place : ℕ) : Type 0 where
  pub within : place < length edges
  pub from : (edge_at edges place).from ≡ v
  pub to : marked marks (edge_at edges place).to ≡ true

-- the index that belongs to the node, 0 past the end
abbrev pub index_at : List ℕ → ℕ → ℕ
index_at places v = slice_index_or places v 0

-- for each node the index of its first edge
pub record AreStarts (edges : List Edge) (nodes : ℕ) (places : List ℕ) : Type 0 where
  pub size : length places ≡ nodes
  pub starts : (v : ℕ) → v < nodes → StartsFrom edges v (index_at places v)
  pub passed : (v k : ℕ) → k < index_at places v → k < length edges → (edge_at edges k).from ≡ v → ⊥

-- the lists of a vector of vectors
abbrev pub lists : List (Vec ℕ Global) → List (List ℕ)
lists rows = map (λ r. r.items) rows

-- the list at this index; empty past the end
abbrev pub list_at : List (List ℕ) → ℕ → List ℕ
list_at rows v = slice_index_or rows v []

-- the invariant of the search: each candidate waits for inspection or its current edge leads to a candidate, and no node that belongs to
-- the result has left the candidates
pub record IsPruning (edges : List Edge) (nodes : ℕ) (marks : List Bool) (places again : List ℕ) : Type 0 where
  pub size : length marks ≡ nodes
  pub placed : length places ≡ nodes
  pub starts : (v : ℕ) → v < nodes → StartsFrom edges v (index_at places v)
  pub passed : (v : ℕ) → v < nodes → ArePassed edges marks v 0 (index_at places v)
  pub waits : (v : ℕ) → marked marks v ≡ true → Contains again v ⊎ LeadsToMarked edges marks v (index_at places v)
  pub greatest : (t : ℕ → Bool) → EachLeadsToMember (Leads edges) t → (v : ℕ) → t v ≡ true → marked marks v ≡ true

-- a bound on the inspections that are left
abbrev pub work_left : List Edge → List Bool → List ℕ → ℕ
work_left edges marks again = mark_count marks * (length edges + 1) + length again
