-- The imports that a search may use, as arcs. The list `allowed` has a flag for each import, whether the search may use it.
use Rattle.std.specs.Prelude.{◌≡◌, ℕ, ◌<◌, true, false, Bool, if◌then◌else◌, List, length, slice_index_or}
use Rattle.cut_net.specs.declared.priced.Priced.{Priced}
use Rattle.residual_graph.specs.declared.arc.Arc.{Arc}
use Rattle.residual_graph.specs.Graphs.{no_arc}

-- the import is in the list at an index whose flag in `allowed` is true
abbrev pub IsAllowed : List Priced → List Bool → Priced → Type 0
IsAllowed imports allowed i = (k : ℕ) × (k < length imports) × (slice_index_or imports k i ≡ i) × (slice_index_or allowed k false ≡ true)

-- the default for an index past the end of a list of imports
abbrev pub any : Priced
any = record { from = 0; to = 0; amount = 0 }

-- the arc of an import, without flow, with capacity 1 if the search may use the import, otherwise 0
abbrev pub arc_if_allowed : Priced → Bool → Arc
arc_if_allowed i allowed = record { from = i.from; to = i.to; capacity = if allowed then 1 else 0; flow = 0 }

-- the list has the arc of each import, in order
pub record AreArcs (imports : List Priced) (allowed : List Bool) (arcs : List Arc) : Type 0 where
  pub size : length arcs ≡ length imports
  pub each : (k : ℕ) → k < length imports → slice_index_or arcs k no_arc ≡ arc_if_allowed (slice_index_or imports k any) (slice_index_or allowed k false)
