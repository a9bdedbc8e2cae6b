use Rattle.std.proofs.Common.{◌+◌, ◌<◌, ◌∙◌, List, refl, sym, subst, get_or}
use Rattle.std.specs.Prelude.{All}
use Rattle.residual_graph.specs.declared.arc.Arc.{Arc}
use Rattle.residual_graph.specs.Graphs.{HasArc}
use Rattle.residual_graph.proofs.Augmenting.{Augmenting, augmenting_start, augmenting_more, augmenting_end, fits_now}
use Rattle.residual_graph.proofs.Keeping.{same_length}
use Rattle.residual_graph.proofs.graph.ResidualGraph.send_along.Goals as goal

pub loop-step-init : goal.loop-step-init
loop-step-init c = record { nodes = refl; made = augmenting_start _ _ _ c.invariants.ensures.within; same = refl }

pub send-requires-clause-left : goal.send-requires-clause-left
send-requires-clause-left c =
    let first = c.args.self.now.arcs in
    let now = c.loop-step.self.arcs in
    let path = c.args.path.now in
    let known : All (HasArc now) path = λ p d h. subst (λ n. (get_or path p d).arc < n) (sym (same_length first now c.loop-step.invariant.same)) (c.requires.known p d h) in
    fits_now first now path c.args.amount c.loop-step.step-index c.loop-step.invariant.made c.loop-step-test.true known c.requires.left c.requires.once

pub loop-step-preserved : goal.loop-step-preserved
loop-step-preserved c =
    let first = c.args.self.now.arcs in
    let now = c.loop-step.self.arcs in
    let path = c.args.path.now in
    let known : All (HasArc now) path = λ p d h. subst (λ n. (get_or path p d).arc < n) (sym (same_length first now c.loop-step.invariant.same)) (c.requires.known p d h) in
    record {
      nodes = c.send.ensures.nodes ∙ c.loop-step.invariant.nodes;
      made = subst (λ (v : List Arc). Augmenting first v path c.args.amount (c.loop-step.step-index + 1)) (sym c.send.ensures.arcs)
          (augmenting_more first now path c.args.amount c.loop-step.step-index c.loop-step.invariant.made c.loop-step-test.true known c.requires.left c.requires.once);
      same = c.send.ensures.same ∙ c.loop-step.invariant.same;
    }

pub returns-clause-raises : goal.returns-clause-raises
returns-clause-raises c = augmenting_end c.args.self.now.arcs c.loop-step.self.arcs c.args.path.now c.args.amount c.loop-step.step-index c.loop-step.invariant.made c.loop-step-test.false
