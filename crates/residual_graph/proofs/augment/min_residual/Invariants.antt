use Rattle.std.proofs.Common.{ℕ, ◌<◌, ◌≤◌, ◌^◌, take}
use Rattle.std.specs.Prelude.{All}
use Rattle.residual_graph.specs.Graphs.{residual}
use Rattle.residual_graph.proofs.augment.min_residual.Given as goal

abbrev pub invariant-loop-step : goal.invariant-loop-step
invariant-loop-step l = record {
  left : All (λ s. l.least ≤ residual l.arcs s) (take l.step-index l.path);
  most : (m : ℕ) → m < 2 ^ 64 → All (λ s. m ≤ residual l.arcs s) l.path → m ≤ l.least;
}
