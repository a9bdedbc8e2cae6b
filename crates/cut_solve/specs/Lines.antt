-- Imports as arcs of residual graphs, and which imports are reported.
use Rattle.std.specs.Prelude.{◌&&◌, nat_lt, Bool, if◌then◌else◌, List}
use Rattle.cut_net.specs.declared.priced.Priced.{Priced}
use Rattle.cut_net.specs.Cuts.{leaves}
use Rattle.residual_graph.specs.declared.arc.Arc.{Arc}
use Rattle.residual_graph.specs.Graphs.{is_flagged}

-- the arc of an import, with the weight as capacity and without flow
abbrev pub arc_without_flow : Priced → Arc
arc_without_flow i = record { from = i.from; to = i.to; capacity = i.amount; flow = 0 }

-- the import of an arc, with the arc's capacity as amount
abbrev pub import_of_arc : Arc → Priced
import_of_arc r = record { from = r.from; to = r.to; amount = r.capacity }

-- the import of an arc, with the arc's flow as amount
abbrev pub flow_line : Arc → Priced
flow_line r = record { from = r.from; to = r.to; amount = r.flow }

-- the amount is above 0
abbrev pub has_flow : Priced → Bool
has_flow line = nat_lt 0 line.amount

-- the reversed arc of an import, with capacity 0 if the import leaves the minimal source side, otherwise 1
abbrev pub reversed_arc_of : List Bool → Priced → Arc
reversed_arc_of source_side i = record { from = i.to; to = i.from; capacity = if leaves (is_flagged source_side) i then 0 else 1; flow = 0 }

-- the import leaves the minimal source side, and its imported module is flagged in `sink_side`: it reaches the sink outside of that side
abbrev pub is_reported_import : List Bool → List Bool → Priced → Bool
is_reported_import source_side sink_side i = leaves (is_flagged source_side) i && is_flagged sink_side i.to
