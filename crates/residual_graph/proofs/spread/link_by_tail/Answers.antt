use Rattle.std.proofs.Common.{◌≡◌, ◌<◌, ◌∙◌, ℕ, length, get_or, refl, ap, sym, subst, arith}
use Rattle.std.proofs.lemmas.List.{get_or_default}
use Rattle.digraph.proofs.TrailNumbers.{trails_more, trails_over}
use Rattle.residual_graph.specs.Graphs.{residual, tail, HasResidual}
use Rattle.residual_graph.specs.Spreading.{residual_arc_at, AreArcLists, LeavesFrom}
use Rattle.residual_graph.proofs.Following.{step_in, tail_low}
use Rattle.residual_graph.proofs.spread.link_by_tail.Goals as goal
use Rattle.residual_graph.proofs.spread.link_by_tail.Goals.{then-residual_of-gt0+in_ok-push, else-residual_of-gt0+in_ok-push-2}

pub loop-number-preserved : goal.loop-number-preserved
loop-number-preserved c =
    let arcs = c.args.arcs.now in
    let at = c.loop-number in
    let number = at.number in
    let last = at.last.items in
    let before = at.before.items in
    let left : c.residual_of.result ≡ residual arcs (residual_arc_at number) = c.residual_of.ensures ∙ ap (residual arcs) c.residual_arc_at-step.ensures in
    let low = tail_low arcs c.args.nodes c.requires.between (residual_arc_at number) (step_in number (length arcs) c.loop-number-test.true) in
    elim c.if-residual_of-gt0.branch [
      | then-residual_of-gt0+in_ok-push w ↦
          let some : HasResidual arcs (residual_arc_at number) = subst (λ (n : ℕ). 0 < n) left w.if-residual_of-gt0.true in
          let tail_is : w.tail_of-node.result ≡ tail arcs (residual_arc_at number) = w.tail_of-node.ensures ∙ ap (tail arcs) c.residual_arc_at-step.ensures in
          let size = at.invariant.size in
          let in_last : tail arcs (residual_arc_at number) < length last = omega arith in
          let was : w.index.result.now ≡ get_or last (tail arcs (residual_arc_at number)) 0 =
          w.index.ensures ∙ ap (λ (v : ℕ). get_or last v w.index.result.now) tail_is ∙ get_or_default last (tail arcs (residual_arc_at number)) w.index.result.now 0 in_last in
          rw (w.last-is, w.before-is, w.in_ok-push.ensures.items, was, tail_is) (trails_more (LeavesFrom arcs) c.args.nodes number last before at.invariant (tail arcs (residual_arc_at number)) low (some, refl) (λ other leaves. sym leaves.1))
      | else-residual_of-gt0+in_ok-push-2 w ↦
          let none : HasResidual arcs (residual_arc_at number) → ⊥ = λ some. let more : 0 < c.residual_of.result = subst (λ (n : ℕ). 0 < n) (sym left) some in omega (arith, more, w.if-residual_of-gt0.false) in
          rw (w.last-is, w.before-is, w.in_ok-push-2.ensures.items) (trails_over (LeavesFrom arcs) c.args.nodes number last before at.invariant (λ v leaves. none leaves.0) 0)
    ]

pub returns : goal.returns
returns c =
    let past = c.loop-number-test.false in
    let end = c.loop-number.auto.number-end in
    subst (AreArcLists c.args.arcs.now c.args.nodes c.loop-number.last.items c.loop-number.before.items) (omega arith) c.loop-number.invariant
