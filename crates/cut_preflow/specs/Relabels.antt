-- When a relabel applies, and its new label (Goldberg and Tarjan 1988, section 3).
use Rattle.std.specs.Prelude.{◌≡◌, ℕ, ◌+◌, ◌*◌, ◌<◌, ◌≤◌, true}
use Rattle.cut_preflow.specs.Preflow.{FlowNetwork, State, count, head, is_active, label_at, residual, tail}

-- an arc with residual capacity leads from node v to a node with the label `least`
pub record LeadsTo (net : FlowNetwork) (s : State) (v least : ℕ) : Type 0 where
  pub arc : ℕ
  pub known : arc < 2 * count net
  pub tail_is : tail net arc ≡ v
  pub room : 0 < residual net s arc
  pub head_label : label_at s (head net arc) ≡ least

-- the new label is one more than the smallest label at the heads of the active node's arcs with residual capacity, which is at least its
-- own
pub record IsRaised (net : FlowNetwork) (s : State) (v label : ℕ) : Type 0 where
  pub active : is_active net s v ≡ true
  pub least : ℕ
  pub leads : LeadsTo net s v least
  pub is_least : (other : ℕ) → LeadsTo net s v other → least ≤ other
  pub none_lower : label_at s v ≤ least
  pub label_is : label ≡ least + 1
