use Rattle.std.proofs.Common.{◌≡◌, ◌⊎◌, ◌*◌, ◌<◌, ℕ, inl, inr, true, false, Some, is_some, refl, ap}
use Rattle.cut_preflow.specs.declared.event.Step.TheVariants.{Push, Relabel}
use Rattle.cut_preflow.specs.Preflow.{FlowNetwork, State, can_push, count, relabel_target, tail}
use Rattle.cut_preflow.specs.Trace.{state_of}
use Rattle.cut_preflow.proofs.Arcs.{active_from}
use Rattle.cut_preflow.proofs.Longer.{shorter}
use Rattle.cut_preflow.proofs.Progress.{progress}
use Rattle.cut_preflow.proofs.preflow_core.PreflowCore.next_step.Goals as goal
use Rattle.cut_preflow.proofs.preflow_core.PreflowCore.next_step.Goals.{In-None}

pub returns-in-Some-clause-few : goal.returns-in-Some-clause-few
returns-in-Some-clause-few c = λ _.
    shorter c.args.self.now.net c.args.self.now.history (Push c.in-Some.arc) c.invariants.ensures.sound.network c.history.ensures.legal c.in-Some.ensures.some

relabels : (c : In-None) → is_some (relabel_target c.args.self.now.net (state_of c.args.self.now) c.in_ok-node.node) ≡ true
relabels c = go (progress net s c.in_ok-node.node c.invariants.ensures.sound.kept (active_from net s c.in_ok-node.node c.in_ok-node.ensures.some))
  where
    net : FlowNetwork
    net = c.args.self.now.net

    s : State
    s = state_of c.args.self.now

    go : ((arc : ℕ) × (arc < 2 * count net) × (tail net arc ≡ c.in_ok-node.node) × (can_push net s arc ≡ true)) ⊎ ((label : ℕ) × (relabel_target net s c.in_ok-node.node ≡ Some label)) → is_some (relabel_target net s c.in_ok-node.node) ≡ true
    go (inl w) =
        let off : can_push net s w.0 ≡ false = c.in-None.ensures.none refl w.0 w.1 w.2 in
        let on = w.3 in
        cc
    go (inr w) = ap (λ o. is_some o) w.1

pub returns-in-None-clause-some : goal.returns-in-None-clause-some
returns-in-None-clause-some c = relabels (goal.at.returns-in-None-clause-some c).In-None

pub returns-in-None-clause-few : goal.returns-in-None-clause-few
returns-in-None-clause-few c = λ _.
    shorter c.args.self.now.net c.args.self.now.history (Relabel c.in_ok-node.node) c.invariants.ensures.sound.network c.history.ensures.legal (relabels (goal.at.returns-in-None-clause-few c).In-None)
