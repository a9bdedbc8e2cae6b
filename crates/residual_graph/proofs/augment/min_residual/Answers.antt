use Rattle.std.proofs.Common.{ℕ, ◌+◌, ◌≤◌, ◌<◌, List, length, get_or, take, sym, subst, arith}
use Rattle.std.specs.Prelude.{All}
use Rattle.std.proofs.lemmas.List.{take_more, take_all}
use Rattle.std.proofs.lemmas.List.Elements.{All-push}
use Rattle.residual_graph.specs.declared.arc.Arc.{Arc}
use Rattle.residual_graph.specs.declared.arc.ResidualArc.{ResidualArc}
use Rattle.residual_graph.specs.Graphs.{no_residual_arc, residual}
use Rattle.residual_graph.proofs.augment.min_residual.Goals as goal
use Rattle.residual_graph.proofs.augment.min_residual.Goals.{then-left-least, else-left-least}

least_more : (arcs : List Arc) (path : List ResidualArc) (i least more : ℕ) → i < length path → All (λ s. least ≤ residual arcs s) (take i path) → more ≤ least →
    more ≤ residual arcs (get_or path i no_residual_arc) → All (λ s. more ≤ residual arcs s) (take (i + 1) path)
least_more arcs path i least more in_i all le fits =
    let P : ResidualArc → Type 0 = λ s. more ≤ residual arcs s in
    subst (All P) (sym (take_more path i no_residual_arc in_i)) (All-push P (take i path) (get_or path i no_residual_arc) (λ k d h. let was = all k d h in omega arith) fits)

pub loop-step-preserved : goal.loop-step-preserved
loop-step-preserved c =
    let is = c.residual_of-left.ensures in
    let in_i = c.loop-step-test.true in
    let arcs = c.args.arcs.now in
    let path = c.args.path.now in
    elim c.if-left-least.branch [
      | then-left-least w ↦
          let e = w.least-is in
          let less = w.if-left-least.true in
          record {
            left = least_more arcs path c.loop-step.step-index c.loop-step.least c.if-left-least.least in_i c.loop-step.invariant.left (omega arith) (omega arith);
            most = λ m small all. let here = all c.loop-step.step-index no_residual_arc in_i in omega arith;
          }
      | else-left-least w ↦
          let e = w.least-is in
          let less = w.if-left-least.false in
          record {
            left = least_more arcs path c.loop-step.step-index c.loop-step.least c.if-left-least.least in_i c.loop-step.invariant.left (omega arith) (omega arith);
            most = λ m small all. let was = c.loop-step.invariant.most m small all in omega arith;
          }
    ]

pub returns-clause-left : goal.returns-clause-left
returns-clause-left c =
    subst (All (λ (s : ResidualArc). c.loop-step.least ≤ residual c.args.arcs.now s)) (take_all c.loop-step.step-index c.args.path.now c.loop-step-test.false) c.loop-step.invariant.left
