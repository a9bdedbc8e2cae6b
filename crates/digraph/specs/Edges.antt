-- Edges between numbered nodes.
use Rattle.std.specs.Prelude.{ℕ, ◌<◌, ◌==◌, ◌&&◌, ◌||◌, nat_lt, Bool, List, map, filter, IsTrue, AllPairs, Contains}
use Rattle.digraph.specs.declared.edge.Edge.{Edge}

-- the strict order of edges: by source, then by target
abbrev pub comes_before : Edge → Edge → Bool
comes_before p q = nat_lt p.from q.from || ((p.from == q.from) && nat_lt p.to q.to)

-- the edges are strictly sorted
abbrev pub IsAscending : List Edge → Type 0
IsAscending edges = AllPairs (λ p q. IsTrue (comes_before p q)) edges

-- both ends of each edge are below count
abbrev pub AreBetween : List Edge → ℕ → Type 0
AreBetween edges count = (p : Edge) → Contains edges p → (p.from < count) × (p.to < count)

-- the edge relation: m has an edge to n
abbrev pub Leads : List Edge → ℕ → ℕ → Type 0
Leads edges m n = Contains edges (record { from = m; to = n })

-- the successors and the predecessors of a node, in the order of the edges
abbrev pub successors : List Edge → ℕ → List ℕ
successors edges v = map (λ p. p.to) (filter (λ p. p.from == v) edges)

abbrev pub predecessors : List Edge → ℕ → List ℕ
predecessors edges v = map (λ p. p.from) (filter (λ p. p.to == v) edges)

-- the reversed edge
abbrev pub transpose : Edge → Edge
transpose p = record { from = p.to; to = p.from }
