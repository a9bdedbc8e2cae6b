-- Flows on the arcs of a graph (Goldberg and Tarjan 1988, section 2).
use Rattle.std.specs.Prelude.{◌≡◌, ◌≢◌, ℕ, ◌+◌, ◌-◌, ◌==◌, Bool, if◌then◌else◌, List, map, sum_by}
use Rattle.residual_graph.specs.declared.arc.Arc.{Arc}

-- the inflow and the outflow of a node
abbrev pub entering : List Arc → ℕ → ℕ
entering arcs m = sum_by (λ r. if r.to == m then r.flow else 0) arcs

abbrev pub leaving : List Arc → ℕ → ℕ
leaving arcs m = sum_by (λ r. if r.from == m then r.flow else 0) arcs

-- the flows of the arcs are a flow from a to b: the inflow of each node but a and b is its outflow, and the value is the outflow of a
-- less its inflow
pub record IsBalanced (arcs : List Arc) (a b value : ℕ) : Type 0 where
  pub kept : (m : ℕ) → m ≢ a → m ≢ b → entering arcs m ≡ leaving arcs m
  pub at_start : entering arcs a + value ≡ leaving arcs a

-- the arc with flow 0
abbrev pub without_flow : Arc → Arc
without_flow r = record { from = r.from; to = r.to; capacity = r.capacity; flow = 0 }

-- the arcs differ at most in their flow
abbrev pub DifferInFlowOnly : List Arc → List Arc → Type 0
DifferInFlowOnly old new = map without_flow new ≡ map without_flow old

-- if the old arcs have a flow from a to b, the new arcs have one whose value is higher by this amount
abbrev pub RaisesFlowValue : List Arc → List Arc → ℕ → ℕ → ℕ → Type 0
RaisesFlowValue old new a b more = (value : ℕ) → IsBalanced old a b value → IsBalanced new a b (value + more)

-- the arc with this amount more flow if forward is true, otherwise with this amount less
abbrev pub pushed : Arc → Bool → ℕ → Arc
pushed r forward amount = record { from = r.from; to = r.to; capacity = r.capacity; flow = if forward then r.flow + amount else r.flow - amount }
