-- Residual arcs with their heads and residual capacities, in one array in which those of a node are adjacent.
use Rattle.std.specs.Prelude.{◌≡◌, ℕ, ◌+◌, ◌≤◌, ◌<◌, if◌then◌else◌, List, length, slice_index_or}
use Rattle.residual_graph.specs.declared.arc.Arc.{Arc}
use Rattle.residual_graph.specs.declared.arc.OutArc.{OutArc}
use Rattle.residual_graph.specs.declared.arc.ResidualArc.{ResidualArc}
use Rattle.residual_graph.specs.declared.groups.OutArcIndexes.{OutArcIndexes}
use Rattle.residual_graph.specs.Graphs.{Graph, IsGraph, HasArc, arc_of, no_residual_arc, room, tail}

-- the residual arc s of the arc r, with its head and residual capacity
abbrev pub out_arc_of : Arc → ResidualArc → OutArc
out_arc_of r s = record { step = s; head = if s.forward then r.to else r.from; residual = room r s.forward }

-- the residual arc s of these arcs, with its head and residual capacity
abbrev pub out_arc : List Arc → ResidualArc → OutArc
out_arc arcs s = out_arc_of (arc_of arcs s) s

abbrev pub step_of : OutArc → ResidualArc
step_of a = a.step

-- the residual arc leaves the node, and its head and residual capacity are those in the graph
pub record IsOutOf (g : Graph) (node : ℕ) (a : OutArc) : Type 0 where
  pub known : HasArc g.arcs a.step
  pub leaves : tail g.arcs a.step ≡ node
  pub beside : a ≡ out_arc g.arcs a.step
  pub low : a.head < g.nodes

abbrev pub no_out_arc : OutArc
no_out_arc = record { step = no_residual_arc; head = 0; residual = 0 }

abbrev pub out_at : List OutArc → ℕ → OutArc
out_at outs p = slice_index_or outs p no_out_arc

abbrev pub begin_of : List ℕ → ℕ → ℕ
begin_of begins u = slice_index_or begins u 0

abbrev pub no_indexes : OutArcIndexes
no_indexes = record { forward = 0; backward = 0 }

-- the index of a residual arc among the residual arcs of its tail
abbrev pub index_of : List OutArcIndexes → ResidualArc → ℕ
index_of indexes s = if s.forward then (slice_index_or indexes s.arc no_indexes).forward else (slice_index_or indexes s.arc no_indexes).backward

-- the residual arc `a`, with its head and residual capacity, has this index among those of node u
pub record IsOutAt (arcs : List Arc) (indexes : List OutArcIndexes) (u : ℕ) (a : OutArc) (index : ℕ) : Type 0 where
  pub known : HasArc arcs a.step
  pub leaves : tail arcs a.step ≡ u
  pub beside : a ≡ out_arc arcs a.step
  pub is_at : index_of indexes a.step ≡ index

-- the array has the residual arcs of each node in the range from the node's start to the start of the next node
pub record AreListed (arcs : List Arc) (nodes : ℕ) (begins : List ℕ) (outs : List OutArc) (indexes : List OutArcIndexes) : Type 0 where
  pub graph : IsGraph (record { nodes = nodes; arcs = arcs })
  pub each_begins : length begins ≡ nodes + 1
  pub each_indexed : length indexes ≡ length arcs
  pub in_order : (u : ℕ) → u < nodes → begin_of begins u ≤ begin_of begins (u + 1)
  pub in_list : (u : ℕ) → u < nodes → begin_of begins (u + 1) ≤ length outs
  pub each : (u index : ℕ) → u < nodes → begin_of begins u + index < begin_of begins (u + 1) → IsOutAt arcs indexes u (out_at outs (begin_of begins u + index)) index
  pub found : (s : ResidualArc) → HasArc arcs s → begin_of begins (tail arcs s) + index_of indexes s < begin_of begins (tail arcs s + 1)
  pub found_is : (s : ResidualArc) → HasArc arcs s → (out_at outs (begin_of begins (tail arcs s) + index_of indexes s)).step ≡ s
