-- What the heuristic leaves unchanged in a graph.
use Rattle.std.specs.Prelude.{◌≡◌, ℕ, ◌+◌, ◌-◌, ◌^◌, ◌<◌, List, length, slice_index_or, min, All}
use Rattle.residual_graph.specs.declared.arc.OutArc.{OutArc}
use Rattle.residual_graph.specs.Flows.{DifferInFlowOnly}
use Rattle.residual_graph.specs.Graphs.{Graph}

-- the graphs differ only in the flow of their arcs
pub record DiffersOnlyInFlow (old new : Graph) : Type 0 where
  pub nodes : new.nodes ≡ old.nodes
  pub same : DifferInFlowOnly old.arcs new.arcs

-- an excess and a label for each node, and a list of active nodes
pub record IsHeuristic (nodes : ℕ) (excesses labels waiting : List ℕ) : Type 0 where
  pub each_excess : length excesses ≡ nodes
  pub each_label : length labels ≡ nodes
  pub known : All (λ n. n < nodes) waiting

abbrev pub label_at : List ℕ → ℕ → ℕ
label_at labels n = slice_index_or labels n 0

-- the residual arc is admissible from a node with this label: it has residual capacity, and the label of its head, plus one but at most
-- 2 ^ 32 - 1, is this label
pub record IsAdmissible (labels : List ℕ) (label : ℕ) (a : OutArc) : Type 0 where
  pub left : 0 < a.residual
  pub below : min (label_at labels a.head + 1) (2 ^ 32 - 1) ≡ label
