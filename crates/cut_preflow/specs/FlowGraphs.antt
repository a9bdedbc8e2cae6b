-- A network's imports as the arcs of a residual graph.
use Rattle.std.specs.Prelude.{◌≡◌, ℕ, ◌+◌, ◌*◌, ◌<◌, ◌==◌, if◌then◌else◌, List, length, map}
use Rattle.cut_net.specs.declared.priced.Priced.{Priced}
use Rattle.residual_graph.specs.declared.arc.Arc.{Arc}
use Rattle.residual_graph.specs.declared.arc.OutArc.{OutArc}
use Rattle.residual_graph.specs.declared.arc.ResidualArc.{ResidualArc}
use Rattle.cut_preflow.specs.Preflow.{tail_in, head_in, residual_in}

-- a `FlowGraph` as contracts see it: the number of nodes, the imports, and the flow on each import
pub record FlowGraphModel : Type 0 where
  pub nodes : ℕ
  pub imports : List Priced
  pub flow : List ℕ

-- the import of an arc, and its flow
abbrev pub import_of : Arc → Priced
import_of r = record { from = r.from; to = r.to; amount = r.capacity }

abbrev pub flow_of : Arc → ℕ
flow_of r = r.flow

abbrev pub imports_of : List Arc → List Priced
imports_of arcs = map import_of arcs

abbrev pub flows_of : List Arc → List ℕ
flows_of arcs = map flow_of arcs

-- the arc of an import, saturated if its tail is the source
abbrev pub initial_arc : ℕ → Priced → Arc
initial_arc source i = record { from = i.from; to = i.to; capacity = i.amount; flow = if i.from == source then i.amount else 0 }

abbrev pub initial_arcs : ℕ → List Priced → List Arc
initial_arcs source imports = map (initial_arc source) imports

-- the number of a residual arc: 2 i forward, 2 i + 1 backward
abbrev pub arc_number : ResidualArc → ℕ
arc_number s = if s.forward then 2 * s.arc else 2 * s.arc + 1

abbrev pub out_arc_number : OutArc → ℕ
out_arc_number a = arc_number a.step

-- the residual arc `a` is one of the graph, and its head and residual capacity are those in the graph
pub record IsArc (g : FlowGraphModel) (a : OutArc) : Type 0 where
  pub known : out_arc_number a < 2 * length g.imports
  pub head_is : a.head ≡ head_in g.imports (out_arc_number a)
  pub residual_is : a.residual ≡ residual_in g.imports g.flow (out_arc_number a)
  pub low : a.head < g.nodes

-- the residual arc `a` leaves node v, and its head and residual capacity are those in the graph
pub record IsArcFrom (g : FlowGraphModel) (v : ℕ) (a : OutArc) : Type 0 where
  pub arc : IsArc g a
  pub leaves : tail_in g.imports (out_arc_number a) ≡ v
