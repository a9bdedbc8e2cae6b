-- The specification of a preflow.
use Rattle.std.specs.Prelude.{◌≡◌, ℕ, ◌^◌, ◌<◌, ◌≤◌, true, if◌then◌else◌, Option, Some, None, List, [], ◌∷◌, ◌++◌}
use Rattle.cut_net.specs.declared.priced.Priced.{Priced}
use Rattle.cut_preflow.specs.declared.ends.FlowEnds.{FlowEnds}
use Rattle.cut_preflow.specs.declared.event.Step.{Step}
use Rattle.cut_preflow.specs.declared.event.Step.TheVariants.{Push, Relabel}
use Rattle.cut_preflow.specs.declared.event.Event.{Event}
use Rattle.cut_preflow.specs.declared.event.Outcome.{Outcome}
use Rattle.cut_preflow.specs.declared.event.Outcome.TheVariants.{Moved, Raised, Stale, Refused}
use Rattle.cut_preflow.specs.FlowGraphs.{FlowGraphModel}
use Rattle.cut_preflow.specs.Total.{total}
use Rattle.cut_preflow.specs.Preflow.{FlowNetwork, State, count, import_at, can_push, push_amount, relabel_target, run, opening, is_legal}
use Rattle.cut_preflow.specs.Kept.{IsFlowNetwork, IsValidPreflow}

-- the flow network of these imports
abbrev pub flow_network : FlowEnds → List Priced → FlowNetwork
flow_network ends imports = record { nodes = ends.nodes; imports = imports; source = ends.source; sink = ends.sink }

-- the state of these flows and labels
abbrev pub state_with : List ℕ → List ℕ → State
state_with flows labels = record { flow = flows; label = labels }

-- the network's nodes and imports, with the flow of a state
abbrev pub flow_graph_model_of : FlowNetwork → State → FlowGraphModel
flow_graph_model_of net s = record { nodes = net.nodes; imports = net.imports; flow = s.flow }

-- a preflow as contracts see it: the network that it was started on, and the applied events
pub record Trace : Type 0 where
  pub net : FlowNetwork
  pub history : List Event

-- the state that the events determine
abbrev pub state_of : Trace → State
state_of p = run p.net (opening p.net) p.history

-- within the limits, with a total weight below 2 ^ 64
pub record IsWithinLimits (net : FlowNetwork) : Type 0 where
  pub few_nodes : net.nodes ≤ 8192
  pub few_imports : count net ≤ 65536
  pub weights : total (count net) (λ i. (import_at net i).amount) < 2 ^ 64

-- a state with the properties of every run on the network
pub record IsSound (net : FlowNetwork) (s : State) : Type 0 where
  pub network : IsFlowNetwork net
  pub limits : IsWithinLimits net
  pub kept : IsValidPreflow net s

-- the flows and labels are those of the run of a legal history
pub record IsTrace (net : FlowNetwork) (flows labels : List ℕ) (history : List Event) : Type 0 where
  pub network : IsFlowNetwork net
  pub limits : IsWithinLimits net
  pub flows_are : flows ≡ (run net (opening net) history).flow
  pub labels_are : labels ≡ (run net (opening net) history).label
  pub legal : is_legal net (opening net) history ≡ true

-- the outcome of a relabel
abbrev pub raised_outcome : Option ℕ → Outcome
raised_outcome None = Stale
raised_outcome (Some label) = Raised label

-- the outcome of a step, unless an allocation fails
abbrev pub step_outcome : FlowNetwork → State → Step → Outcome
step_outcome net s (Push arc) = if can_push net s arc then Moved (push_amount net s arc) else Stale
step_outcome net s (Relabel node) = raised_outcome (relabel_target net s node)

-- the history after an event with this outcome
abbrev pub history_after : List Event → Event → Outcome → List Event
history_after history event (Moved amount) = history ++ event ∷ []
history_after history event (Raised label) = history ++ event ∷ []
history_after history event Stale = history
history_after history event Refused = history
