use Rattle.std.proofs.Common.{ℕ, ◌≢◌, ◌<◌}
use Rattle.residual_graph.specs.Trees.{visit_at}
use Rattle.residual_graph.proofs.paths.visit_index.Given as goal

abbrev pub invariant-loop-p : goal.invariant-loop-p
invariant-loop-p l = (q : ℕ) → q < l.p → (visit_at l.visits q).node ≢ l.node
