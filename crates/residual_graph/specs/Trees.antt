-- The visits of a search. A visit has a reached node, the residual arc that reached it, and its parent: the earlier visit of the arc's
-- tail. The first visit is that of the start; its arc and its parent mean nothing.
use Rattle.std.specs.Prelude.{◌≡◌, ◌≢◌, ℕ, ◌<◌, Bool, true, false, count_by, List, length, slice_index_or}
use Rattle.residual_graph.specs.declared.arc.Arc.{Arc}
use Rattle.residual_graph.specs.declared.arc.ResidualArc.{ResidualArc}
use Rattle.residual_graph.specs.declared.found.Visit.{Visit}
use Rattle.residual_graph.specs.Graphs.{no_residual_arc, Graph, HasResidual, HasArc, head, is_flagged, tail}

abbrev pub no_visit : Visit
no_visit = record { node = 0; step = record { arc = 0; forward = false }; parent = 0 }

abbrev pub visit_at : List Visit → ℕ → Visit
visit_at visits p = slice_index_or visits p no_visit

-- the parent of each visit but the first is an earlier visit
abbrev pub HaveParents : List Visit → Type 0
HaveParents visits = (p : ℕ) → 0 < p → p < length visits → (visit_at visits p).parent < p

-- the visit's residual arc leads from its parent to its node, with residual capacity
pub record IsTreeEdge (arcs : List Arc) (visits : List Visit) (p : ℕ) : Type 0 where
  pub earlier : (visit_at visits p).parent < p
  pub known : HasArc arcs (visit_at visits p).step
  pub left : HasResidual arcs (visit_at visits p).step
  pub leaves : tail arcs (visit_at visits p).step ≡ (visit_at visits (visit_at visits p).parent).node
  pub comes : head arcs (visit_at visits p).step ≡ (visit_at visits p).node

-- the first visit is the start, and each flagged node has exactly one visit
pub record IsTree (g : Graph) (start : ℕ) (reached_flags : List Bool) (visits : List Visit) : Type 0 where
  pub size : length reached_flags ≡ g.nodes
  pub first : (visit_at visits 0).node ≡ start
  pub found : (p : ℕ) → 0 < p → p < length visits → IsTreeEdge g.arcs visits p
  pub once : (p q : ℕ) → p < q → q < length visits → (visit_at visits p).node ≢ (visit_at visits q).node
  pub listed : (p : ℕ) → p < length visits → ((visit_at visits p).node < g.nodes) × (is_flagged reached_flags (visit_at visits p).node ≡ true)
  pub placed : (m : ℕ) → is_flagged reached_flags m ≡ true → (p : ℕ) × (p < length visits) × ((visit_at visits p).node ≡ m)
  pub started : is_flagged reached_flags start ≡ true

-- the residual arc has residual capacity and leads to an unflagged node
abbrev pub ExtendsSearch : List Arc → ResidualArc → List Bool → Type 0
ExtendsSearch arcs s reached_flags = HasResidual arcs s × (is_flagged reached_flags (head arcs s) ≡ false)

-- the search has followed all residual arcs of the nodes that were visited before index `place`, and the first k of the node at `place`,
-- which are those of `group`
pub record Searching (g : Graph) (start : ℕ) (reached_flags : List Bool) (visits : List Visit) (place : ℕ) (group : List ResidualArc) (k : ℕ) : Type 0 where
  pub tree : IsTree g start reached_flags visits
  pub counted : count_by (λ s. s) reached_flags ≡ length visits
  pub before : (p : ℕ) (s : ResidualArc) → p < place → p < length visits → HasArc g.arcs s → tail g.arcs s ≡ (visit_at visits p).node →
      HasResidual g.arcs s → is_flagged reached_flags (head g.arcs s) ≡ true
  pub here : (j : ℕ) → j < k → j < length group → HasResidual g.arcs (slice_index_or group j no_residual_arc) →
      is_flagged reached_flags (head g.arcs (slice_index_or group j no_residual_arc)) ≡ true
