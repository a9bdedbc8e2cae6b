-- Push-relabel as a state machine: a state, its steps, and lists of events (Goldberg and Tarjan 1988, sections 2 and 3).
use Rattle.std.specs.Prelude.{ℕ, zero, suc, ◌+◌, ◌-◌, ◌*◌, ◌/◌, ◌%◌, min, Bool, true, not, ◌&&◌, ◌==◌, nat_lt, nat_le, if◌then◌else◌, Option, Some, None, is_some, List, [], ◌∷◌, map, replicate, length, slice_index, slice_index_or, slice_set}
use Rattle.cut_net.specs.declared.priced.Priced.{Priced}
use Rattle.cut_net.specs.Network.{missing_item}
use Rattle.cut_preflow.specs.declared.event.Step.{Step}
use Rattle.cut_preflow.specs.declared.event.Step.TheVariants.{Push, Relabel}
use Rattle.cut_preflow.specs.declared.event.Event.{Event}
use Rattle.cut_preflow.specs.Total.{total}

-- a network between two of its modules: nodes are numbered from 0, and each import leads from the importer to the imported module, with
-- its weight as capacity
pub record FlowNetwork : Type 0 where
  pub nodes : ℕ
  pub imports : List Priced
  pub source : ℕ
  pub sink : ℕ

-- the flow on each import, and the label of each node
pub record State : Type 0 where
  pub flow : List ℕ
  pub label : List ℕ

-- the number of imports
abbrev pub count : FlowNetwork → ℕ
count net = length net.imports

-- an import by its number; past the end one from node 0 to node 0 without capacity
abbrev pub import_in : List Priced → ℕ → Priced
import_in imports i = slice_index_or imports i missing_item

abbrev pub import_at : FlowNetwork → ℕ → Priced
import_at net i = import_in net.imports i

abbrev pub flow_at : State → ℕ → ℕ
flow_at s i = slice_index s.flow i

abbrev pub label_at : State → ℕ → ℕ
label_at s v = slice_index s.label v

-- the inflow and the outflow of a node
abbrev pub into : List Priced → List ℕ → ℕ → ℕ
into imports flow v = total (length imports) (λ i. if (import_in imports i).to == v then slice_index flow i else 0)

abbrev pub out_of : List Priced → List ℕ → ℕ → ℕ
out_of imports flow v = total (length imports) (λ i. if (import_in imports i).from == v then slice_index flow i else 0)

abbrev pub inflow : FlowNetwork → State → ℕ → ℕ
inflow net s v = into net.imports s.flow v

abbrev pub outflow : FlowNetwork → State → ℕ → ℕ
outflow net s v = out_of net.imports s.flow v

abbrev pub excess : FlowNetwork → State → ℕ → ℕ
excess net s v = inflow net s v - outflow net s v

-- import i has the forward arc 2 * i, from the importer to the imported module, and the backward arc 2 * i + 1
abbrev pub is_forward : ℕ → Bool
is_forward arc = arc % 2 == 0

abbrev pub tail_in : List Priced → ℕ → ℕ
tail_in imports arc = if is_forward arc then (import_in imports (arc / 2)).from else (import_in imports (arc / 2)).to

abbrev pub head_in : List Priced → ℕ → ℕ
head_in imports arc = if is_forward arc then (import_in imports (arc / 2)).to else (import_in imports (arc / 2)).from

abbrev pub tail : FlowNetwork → ℕ → ℕ
tail net arc = tail_in net.imports arc

abbrev pub head : FlowNetwork → ℕ → ℕ
head net arc = head_in net.imports arc

-- the residual capacity of an arc
abbrev pub residual_in : List Priced → List ℕ → ℕ → ℕ
residual_in imports flow arc = if is_forward arc then (import_in imports (arc / 2)).amount - slice_index flow (arc / 2) else slice_index flow (arc / 2)

abbrev pub residual : FlowNetwork → State → ℕ → ℕ
residual net s arc = residual_in net.imports s.flow arc

-- an active node: it has excess, and is neither the source nor the sink
abbrev pub is_active : FlowNetwork → State → ℕ → Bool
is_active net s v = nat_lt v net.nodes && (not (v == net.source) && (not (v == net.sink) && nat_lt 0 (excess net s v)))

-- the initial state: imports by the source are saturated, the source's label is the number of nodes, and all other labels are 0
abbrev pub opening_flows : ℕ → List Priced → List ℕ
opening_flows source imports = map (λ e. if e.from == source then e.amount else 0) imports

abbrev pub opening : FlowNetwork → State
opening net = record {
  flow = opening_flows net.source net.imports;
  label = slice_set (replicate net.nodes 0) net.source net.nodes;
}

-- a push over the arc applies
abbrev pub can_push : FlowNetwork → State → ℕ → Bool
can_push net s arc =
    nat_lt (arc / 2) (count net)
    && (is_active net s (tail net arc)
    && (nat_lt 0 (residual net s arc)
    && label_at s (tail net arc) == label_at s (head net arc) + 1))

-- the amount of a push
abbrev pub push_amount : FlowNetwork → State → ℕ → ℕ
push_amount net s arc = min (excess net s (tail net arc)) (residual net s arc)

-- the flows after a push
abbrev pub pushed : FlowNetwork → State → ℕ → List ℕ
pushed net s arc =
    slice_set s.flow (arc / 2)
    (if is_forward arc then flow_at s (arc / 2) + push_amount net s arc else flow_at s (arc / 2) - push_amount net s arc)

-- the minimum of a number and an optional one
abbrev pub smaller : Option ℕ → ℕ → ℕ
smaller None x = x
smaller (Some y) x = min y x

-- the smallest label at the heads of the node's arcs with residual capacity, of the arcs below this number
abbrev pub least_head_in : List Priced → List ℕ → List ℕ → ℕ → ℕ → Option ℕ
least_head_in imports flow label v zero = None
least_head_in imports flow label v (suc arc) =
    if tail_in imports arc == v && nat_lt 0 (residual_in imports flow arc)
    then Some (smaller (least_head_in imports flow label v arc) (slice_index label (head_in imports arc)))
    else least_head_in imports flow label v arc

abbrev pub least_head : FlowNetwork → State → ℕ → ℕ → Option ℕ
least_head net s v arcs = least_head_in net.imports s.flow s.label v arcs

-- the new label of a relabel, given the node's label and the smallest label at the heads of its arcs with residual capacity. The relabel
-- applies only if this smallest label is at least the node's
abbrev pub raised_over : ℕ → Option ℕ → Option ℕ
raised_over label None = None
raised_over label (Some least) = if nat_le label least then Some (least + 1) else None

abbrev pub relabel_target : FlowNetwork → State → ℕ → Option ℕ
relabel_target net s v =
    if is_active net s v then raised_over (label_at s v) (least_head net s v (2 * count net)) else None

abbrev pub relabelled : State → ℕ → Option ℕ → State
relabelled s v None = s
relabelled s v (Some label) = record { flow = s.flow; label = slice_set s.label v label }

-- the state after a step; unchanged if the step doesn't apply
abbrev pub after : FlowNetwork → State → Step → State
after net s (Push arc) = if can_push net s arc then record { flow = pushed net s arc; label = s.label } else s
after net s (Relabel node) = relabelled s node (relabel_target net s node)

-- whether the step applies
abbrev pub applies : FlowNetwork → State → Step → Bool
applies net s (Push arc) = can_push net s arc
applies net s (Relabel node) = is_some (relabel_target net s node)

-- the state after a list of events
abbrev pub run : FlowNetwork → State → List Event → State
run net s [] = s
run net s (e ∷ es) = run net (after net s e.step) es

-- each event applies in the state after its predecessors
abbrev pub is_legal : FlowNetwork → State → List Event → Bool
is_legal net s [] = true
is_legal net s (e ∷ es) = applies net s e.step && is_legal net (after net s e.step) es
