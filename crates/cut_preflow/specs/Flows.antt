-- The flow and the source side of a preflow as those of a network (Goldberg and Tarjan 1988, section 2).
use Rattle.std.specs.Prelude.{◌≡◌, ◌≢◌, ℕ, ◌-◌, ◌<◌, Bool, List, length}
use Rattle.cut_net.specs.declared.priced.Priced.{Priced}
use Rattle.cut_net.specs.Network.{Network}
use Rattle.cut_net.specs.Cuts.{IsSetOf, IsFlow, InSourceSide, Reached}
use Rattle.cut_net.specs.Lines.{flow_by}
use Rattle.cut_net.specs.Pins.{ArePins, InSourceSideWithPins, PinChain}
use Rattle.cut_part.specs.Apart.{flow_lines}
use Rattle.cut_part.specs.CapacityReduction.{IsUnreachable}
use Rattle.cut_preflow.specs.Preflow.{FlowNetwork, State, inflow, outflow}
use Rattle.cut_preflow.specs.Side.{has}

-- a and b are two different modules of the network
pub record AreEnds (net : Network) (a b : ℕ) : Type 0 where
  pub from_in : a < length net.names
  pub to_in : b < length net.names
  pub apart : a ≢ b

-- the network between two of its modules, which are given by numbers instead of names
abbrev pub network_between : Network → ℕ → ℕ → FlowNetwork
network_between net a b = record { nodes = length net.names; imports = net.imports; source = a; sink = b }

-- the network with this number of nodes and these imports, between two of its nodes
abbrev pub network_on : ℕ → List Priced → ℕ → ℕ → FlowNetwork
network_on nodes imports source sink = record { nodes = nodes; imports = imports; source = source; sink = sink }

-- the flow network is the network between two nodes: it has its nodes and imports
abbrev pub IsOf : Network → FlowNetwork → Type 0
IsOf net flow_net = flow_net ≡ network_between net flow_net.source flow_net.sink

-- the state's flow on an import of the network
abbrev pub flow_on : FlowNetwork → State → Priced → ℕ
flow_on flow_net s = flow_by (flow_lines flow_net.imports s.flow)

-- the value of the flow: the outflow of the source less its inflow
abbrev pub value_of : FlowNetwork → State → ℕ
value_of flow_net s = outflow flow_net s flow_net.source - inflow flow_net s flow_net.source

-- the state's flow is a flow of the network, with its value
abbrev pub HasFlow : FlowNetwork → State → Type 0
HasFlow flow_net s = (net : Network) → IsOf net flow_net → IsFlow net flow_net.source flow_net.sink (flow_on flow_net s) (value_of flow_net s)

-- the sink isn't reachable from the source in the residual graph of the state's flow
abbrev pub IsSinkUnreachable : FlowNetwork → State → Type 0
IsSinkUnreachable flow_net s = (net : Network) → IsOf net flow_net → IsUnreachable net (flow_on flow_net s) flow_net.source flow_net.sink

-- the flagged modules are those that the source reaches in the residual graph of the state's flow
abbrev pub AreReached : FlowNetwork → State → List Bool → Type 0
AreReached flow_net s bits = (net : Network) → IsOf net flow_net → IsSetOf (has bits) (Reached net (flow_on flow_net s) flow_net.source)

-- the flagged modules are the minimal source side
abbrev pub AreSourceSide : FlowNetwork → List Bool → Type 0
AreSourceSide flow_net bits = (net : Network) → IsOf net flow_net → IsSetOf (has bits) (InSourceSide net flow_net.source flow_net.sink)

-- if no path of pinned imports leads from the source to the sink, the flagged modules are the minimal source side with pins
abbrev pub AreSourceSideWithPins : FlowNetwork → List Bool → Type 0
AreSourceSideWithPins flow_net bits =
    (net : Network) → IsOf net flow_net → ArePins net → (PinChain net flow_net.source flow_net.sink → ⊥) → IsSetOf (has bits) (InSourceSideWithPins net flow_net.source flow_net.sink)
