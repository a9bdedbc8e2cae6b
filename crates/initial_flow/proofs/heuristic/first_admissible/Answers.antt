use Rattle.std.proofs.Common.{◌<◌, ◌≤◌, ◌∙◌, arith}
use Rattle.residual_graph.specs.OutArcs.{out_at}
use Rattle.initial_flow.specs.Heuristics.{label_at, IsAdmissible}
use Rattle.initial_flow.proofs.Passing.{up_to_next}
use Rattle.initial_flow.proofs.heuristic.first_admissible.Goals.{then-out-gt0+else-saturating_add-label, else-out-gt0}
use Rattle.initial_flow.proofs.heuristic.first_admissible.Goals as goal

pub loop-place-preserved : goal.loop-place-preserved
loop-place-preserved c =
    let outs = c.args.outs.now in
    let labels = c.args.labels.now in
    let start = c.args.start in
    let place = c.loop-place.place in
    let from = c.loop-place.auto.place in
    let here = c.loop-place.invariant in
    let passed = c.if-out-gt0.passed in
    elim c.if-out-gt0.branch [
      | then-out-gt0+else-saturating_add-label w ↦
          let least = w.min-passed.ensures in
          let is = w.passed-is in
          record {
            none_before = up_to_next (λ p. IsAdmissible labels c.args.label (out_at outs p) → ⊥) start place here.none_before
                (λ d. w.if-saturating_add-label.false (w.saturating_add.ensures ∙ d.below));
            passed = up_to_next (λ p. 0 < (out_at outs p).residual → passed ≤ label_at labels (out_at outs p).head) start place
                (λ p first low left. let before = here.passed p first low left in omega arith) (λ left. omega arith);
            most = λ m small all.
                let before = here.most m small (λ p first low left. all p first (omega arith) left) in
                let one = all place from (omega arith) w.if-out-gt0.true in
                omega arith;
          }
      | else-out-gt0 w ↦
          let none = w.if-out-gt0.false in
          let is = w.passed-is in
          record {
            none_before = up_to_next (λ p. IsAdmissible labels c.args.label (out_at outs p) → ⊥) start place here.none_before
                (λ d. let left = d.left in omega arith);
            passed = up_to_next (λ p. 0 < (out_at outs p).residual → passed ≤ label_at labels (out_at outs p).head) start place
                (λ p first low left. let before = here.passed p first low left in omega arith) (λ left. absurd (omega arith));
            most = λ m small all. let before = here.most m small (λ p first low left. all p first (omega arith) left) in omega arith;
          }
    ]
