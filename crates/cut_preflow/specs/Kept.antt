-- The invariant of push-relabel (Goldberg and Tarjan 1988, section 3).
use Rattle.std.specs.Prelude.{◌≡◌, ◌≢◌, ℕ, ◌+◌, ◌*◌, ◌<◌, ◌≤◌, false, length}
use Rattle.cut_part.specs.Apart.{AreApart}
use Rattle.cut_preflow.specs.Preflow.{FlowNetwork, State, count, import_at, flow_at, label_at, inflow, outflow, is_active}

-- both ends of each import, the source and the sink are nodes, and no two imports have equal ends
pub record IsFlowNetwork (net : FlowNetwork) : Type 0 where
  pub from_low : (i : ℕ) → i < count net → (import_at net i).from < net.nodes
  pub to_low : (i : ℕ) → i < count net → (import_at net i).to < net.nodes
  pub source_low : net.source < net.nodes
  pub sink_low : net.sink < net.nodes
  pub apart : net.source ≢ net.sink
  pub apart_ends : AreApart net.imports

-- the invariant of the states after any list of events
pub record IsValidPreflow (net : FlowNetwork) (s : State) : Type 0 where
  pub flows : length s.flow ≡ count net
  pub labels : length s.label ≡ net.nodes
  -- each flow is at most its capacity
  pub fits : (i : ℕ) → i < count net → flow_at s i ≤ (import_at net i).amount
  -- no node but the source has more outflow than inflow
  pub no_debt : (v : ℕ) → v < net.nodes → v ≢ net.source → outflow net s v ≤ inflow net s v
  -- the labelling is valid: along an arc with residual capacity the label falls by at most one
  pub valid : (i : ℕ) → i < count net → (flow_at s i < (import_at net i).amount → label_at s (import_at net i).from ≤ label_at s (import_at net i).to + 1) × (0 < flow_at s i → label_at s (import_at net i).to ≤ label_at s (import_at net i).from + 1)
  pub source_label : label_at s net.source ≡ net.nodes
  pub sink_label : label_at s net.sink ≡ 0
  -- labels are below twice the number of nodes
  pub low : (v : ℕ) → v < net.nodes → label_at s v < 2 * net.nodes

-- no node is active: none but the source and the sink has excess
abbrev pub IsQuiet : FlowNetwork → State → Type 0
IsQuiet net s = (v : ℕ) → is_active net s v ≡ false
