use Rattle.std.proofs.Common.{ℕ, ◌≤◌, ◌<◌, ◌^◌}
use Rattle.residual_graph.specs.OutArcs.{out_at}
use Rattle.initial_flow.specs.Heuristics.{label_at, IsAdmissible}
use Rattle.initial_flow.proofs.heuristic.first_admissible.Given as goal

abbrev pub invariant-loop-place : goal.invariant-loop-place
invariant-loop-place l = record {
  none_before : (p : ℕ) → l.start ≤ p → p < l.place → IsAdmissible l.labels l.label (out_at l.outs p) → ⊥;
  passed : (p : ℕ) → l.start ≤ p → p < l.place → 0 < (out_at l.outs p).residual → l.passed ≤ label_at l.labels (out_at l.outs p).head;
  most : (m : ℕ) → m < 2 ^ 32 → ((p : ℕ) → l.start ≤ p → p < l.place → 0 < (out_at l.outs p).residual → m ≤ label_at l.labels (out_at l.outs p).head) → m ≤ l.passed;
}
