-- A maximum flow, defined by what the source reaches in the flow's residual graph (Goldberg and Tarjan 1988, section 2).
use Rattle.std.specs.Prelude.{◌≡◌, ℕ, ◌<◌, Bool, false, List, length, All}
use Rattle.cut_net.specs.declared.priced.Priced.{Priced}
use Rattle.cut_net.specs.Network.{Network}
use Rattle.cut_net.specs.Cuts.{IsSetOf, IsFlow, Reached}
use Rattle.cut_net.specs.Lines.{flow_by, AreImportsInOrder}
use Rattle.residual_graph.specs.Graphs.{is_flagged}

-- `flow` is a flow from a to b. `source_side` flags exactly the modules that a reaches in the flow's residual graph, and b isn't one of
-- them
pub record IsMaximumFlow (net : Network) (a b : ℕ) (source_side : List Bool) (flow : List Priced) : Type 0 where
  pub size : length source_side ≡ length net.names
  pub reached : IsSetOf (is_flagged source_side) (Reached net (flow_by flow) a)
  pub end : is_flagged source_side b ≡ false
  pub in_order : AreImportsInOrder net flow
  pub above_zero : All (λ line. 0 < line.amount) flow
  pub value : ℕ
  pub is_flow : IsFlow net a b (flow_by flow) value
