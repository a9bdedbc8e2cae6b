-- Graphs whose arcs have a flow, and their residual arcs (Goldberg and Tarjan 1988, section 2). A residual arc is an arc in its direction
-- or against it.
use Rattle.std.specs.Prelude.{◌≡◌, ◌≢◌, ◌↔◌, ℕ, ◌-◌, ◌^◌, ◌≤◌, ◌<◌, Bool, true, false, if◌then◌else◌, List, [], ◌∷◌, length, slice_index_or, All, AllPairs}
use Rattle.residual_graph.specs.declared.arc.Arc.{Arc}
use Rattle.residual_graph.specs.declared.arc.ResidualArc.{ResidualArc}

-- the number of nodes, and the arcs between them
pub record Graph : Type 0 where
  pub nodes : ℕ
  pub arcs : List Arc

-- no flow is above its arc's capacity, and the ends of arcs are nodes
pub record IsGraph (g : Graph) : Type 0 where
  pub within : All (λ r. r.flow ≤ r.capacity) g.arcs
  pub between : All (λ r. (r.from < g.nodes) × (r.to < g.nodes)) g.arcs
  pub few_nodes : g.nodes < 2 ^ 32

abbrev pub no_arc : Arc
no_arc = record { from = 0; to = 0; capacity = 0; flow = 0 }

abbrev pub no_residual_arc : ResidualArc
no_residual_arc = record { arc = 0; forward = false }

-- the arc that a residual arc follows, in its direction or against it
abbrev pub arc_of : List Arc → ResidualArc → Arc
arc_of arcs s = slice_index_or arcs s.arc no_arc

-- the graph has the arc that the residual arc follows
abbrev pub HasArc : List Arc → ResidualArc → Type 0
HasArc arcs s = s.arc < length arcs

-- the tail of a residual arc; below, its head
abbrev pub tail : List Arc → ResidualArc → ℕ
tail arcs s = if s.forward then (arc_of arcs s).from else (arc_of arcs s).to

abbrev pub head : List Arc → ResidualArc → ℕ
head arcs s = if s.forward then (arc_of arcs s).to else (arc_of arcs s).from

-- the residual capacity of an arc: in its direction the capacity less the flow, against it the flow
abbrev pub room : Arc → Bool → ℕ
room arc forward = if forward then arc.capacity - arc.flow else arc.flow

abbrev pub residual : List Arc → ResidualArc → ℕ
residual arcs s = room (arc_of arcs s) s.forward

-- the residual arc has residual capacity
abbrev pub HasResidual : List Arc → ResidualArc → Type 0
HasResidual arcs s = 0 < residual arcs s

-- the residual arcs lead from u to b: each begins at the head of the previous one
abbrev pub IsResidualWalk : List Arc → ℕ → List ResidualArc → ℕ → Type 0
IsResidualWalk arcs u [] b = u ≡ b
IsResidualWalk arcs u (s ∷ more) b = (tail arcs s ≡ u) × IsResidualWalk arcs (head arcs s) more b

-- the residual arcs lead from a to b over arcs of the graph, and no arc occurs twice
pub record IsPath (arcs : List Arc) (a : ℕ) (path : List ResidualArc) (b : ℕ) : Type 0 where
  pub leads : IsResidualWalk arcs a path b
  pub known : All (HasArc arcs) path
  pub once : AllPairs (λ s t. s.arc ≢ t.arc) path

-- an augmenting path: each residual arc has residual capacity
pub record IsAugmenting (arcs : List Arc) (a : ℕ) (path : List ResidualArc) (b : ℕ) : Type 0 where
  pub is_path : IsPath arcs a path b
  pub left : All (HasResidual arcs) path

-- an augmenting path leads from a to b
abbrev pub Reaches : List Arc → ℕ → ℕ → Type 0
Reaches arcs a b = (path : List ResidualArc) × IsAugmenting arcs a path b

-- the flag of a node; false past the end
abbrev pub is_flagged : List Bool → ℕ → Bool
is_flagged reached_flags m = slice_index_or reached_flags m false

-- the flagged nodes are those that augmenting paths from the start reach
pub record AreReached (g : Graph) (start : ℕ) (reached_flags : List Bool) : Type 0 where
  pub size : length reached_flags ≡ g.nodes
  pub each : (m : ℕ) → (is_flagged reached_flags m ≡ true) ↔ ((m < g.nodes) × Reaches g.arcs start m)

-- no residual arc with residual capacity leads from a flagged node to an unflagged one
abbrev pub AreClosed : List Arc → List Bool → Type 0
AreClosed arcs reached_flags = (s : ResidualArc) → HasArc arcs s → HasResidual arcs s → is_flagged reached_flags (tail arcs s) ≡ true → is_flagged reached_flags (head arcs s) ≡ true
