-- Paths in a level graph, built from the sink backwards, and flows whose value rises.
use Rattle.std.specs.Prelude.{◌≡◌, ℕ, ◌<◌, not, List, [], ◌∷◌, length, slice_index_or, All}
use Rattle.residual_graph.specs.declared.arc.Arc.{Arc}
use Rattle.residual_graph.specs.declared.arc.ResidualArc.{ResidualArc}
use Rattle.residual_graph.specs.Flows.{RaisesFlowValue}
use Rattle.residual_graph.specs.Graphs.{Graph, HasArc, head, tail}

-- the residual arc of the same arc in the opposite direction
abbrev pub opposite : ResidualArc → ResidualArc
opposite s = record { arc = s.arc; forward = not s.forward }

-- the residual arc leads to a higher level
abbrev pub Climbs : List Arc → List ℕ → ResidualArc → Type 0
Climbs arcs levels s = slice_index_or levels (tail arcs s) 0 < slice_index_or levels (head arcs s) 0

-- the list has the steps of a path from a to b, the last step first
abbrev pub LeadsBack : List Arc → ℕ → List ResidualArc → ℕ → Type 0
LeadsBack arcs b [] a = b ≡ a
LeadsBack arcs b (s ∷ more) a = (head arcs s ≡ b) × LeadsBack arcs (tail arcs s) more a

-- the path leads from its first node to the sink by residual arcs to higher levels
pub record IsDescent (g : Graph) (levels : List ℕ) (end : ℕ) (current : List ℕ) (path : List ResidualArc) (at : ℕ) : Type 0 where
  pub levels_size : length levels ≡ g.nodes
  pub current_size : length current ≡ g.nodes
  pub end_in : end < g.nodes
  pub at_in : at < g.nodes
  pub known : All (HasArc g.arcs) path
  pub leads : LeadsBack g.arcs end path at
  pub climbs : All (Climbs g.arcs levels) path

-- each flow from a to b becomes a flow of at least its value
abbrev pub RaisesOrKeeps : List Arc → List Arc → ℕ → ℕ → Type 0
RaisesOrKeeps old new a b = (more : ℕ) × RaisesFlowValue old new a b more

-- each flow from a to b becomes a flow of a higher value
abbrev pub Raises : List Arc → List Arc → ℕ → ℕ → Type 0
Raises old new a b = (more : ℕ) × (0 < more) × RaisesFlowValue old new a b more
