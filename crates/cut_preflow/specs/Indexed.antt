-- The redundant data of a preflow, stored for speed: the number of nodes, the excess of each node, and the set of active nodes.
use Rattle.std.specs.Prelude.{◌≡◌, ◌≢◌, ℕ, ◌+◌, ◌-◌, ◌<◌, Bool, false, not, ◌&&◌, ◌==◌, nat_lt, if◌then◌else◌, List, length, slice_index, slice_index_or, slice_set}
use Rattle.cut_preflow.specs.declared.ends.FlowEnds.{FlowEnds}
use Rattle.cut_preflow.specs.Preflow.{FlowNetwork, State, excess, is_active}

-- the stored number of nodes is the network's, the stored excesses are those of the state, but for the source, and the flagged nodes are
-- the active ones
pub record IsIndexed (net : FlowNetwork) (s : State) (nodes : ℕ) (excesses : List ℕ) (active : List Bool) : Type 0 where
  pub nodes_are : nodes ≡ net.nodes
  pub each_counted : length excesses ≡ net.nodes
  pub excesses_are : (v : ℕ) → v < net.nodes → v ≢ net.source → slice_index excesses v ≡ excess net s v
  pub each_tested : length active ≡ net.nodes
  pub active_are : (v : ℕ) → slice_index_or active v false ≡ is_active net s v

-- a node other than the source and the sink that has excess, given the excesses
abbrev pub is_active_by : FlowEnds → List ℕ → ℕ → Bool
is_active_by ends excesses v = nat_lt v ends.nodes && (not (v == ends.source) && (not (v == ends.sink) && nat_lt 0 (slice_index excesses v)))

-- there is an excess for each node, and the flagged nodes are the active ones
pub record AreActive (ends : FlowEnds) (excesses : List ℕ) (active : List Bool) : Type 0 where
  pub each_counted : length excesses ≡ ends.nodes
  pub each_tested : length active ≡ ends.nodes
  pub active_are : (v : ℕ) → slice_index_or active v false ≡ is_active_by ends excesses v

-- the excesses after an amount is added to a node; the source's isn't recorded
abbrev pub with_added_excess : ℕ → List ℕ → ℕ → ℕ → List ℕ
with_added_excess source excesses node amount = if node == source then excesses else slice_set excesses node (slice_index excesses node + amount)

-- the excesses after an amount moves from one node to another
abbrev pub with_moved_excess : ℕ → List ℕ → ℕ → ℕ → ℕ → List ℕ
with_moved_excess source excesses from to amount = with_added_excess source (slice_set excesses from (slice_index excesses from - amount)) to amount
