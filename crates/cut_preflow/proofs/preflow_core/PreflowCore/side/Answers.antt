use Rattle.std.proofs.Common.{◌≡◌, ◌∙◌, false, IfOk, length, ap, subst, arith}
use Rattle.std.proofs.lemmas.Result.{IfOk-weaker}
use Rattle.cut_preflow.specs.Trace.{state_of}
use Rattle.cut_preflow.specs.Flows.{AreSourceSide, AreReached}
use Rattle.cut_preflow.specs.Side.{has, IsReachableSet}
use Rattle.cut_preflow.proofs.Fields.{reached_flags, sound_fields}
use Rattle.cut_preflow.proofs.Flowing.{marks_near, marks_reached, sink_outside}
use Rattle.cut_preflow.proofs.preflow_core.PreflowCore.side.Goals as goal

pub reach-requires : goal.reach-requires
reach-requires c =
    let low = (sound_fields c.self.inside c.self.invariant.0).network.source_low in
    omega (arith, low, c.self.invariant.1.nodes_are)

pub returns-clause-size : goal.returns-clause-size
returns-clause-size c = subst (λ n. IfOk c.reach.result (λ m. length m.items ≡ n)) (c.self.invariant.1.nodes_are ∙ ap (λ p. p.net.nodes) c.self.view_is) c.reach.ensures.size

pub returns-clause-reached : goal.returns-clause-reached
returns-clause-reached c =
    let net = c.args.self.now.net in
    let s = state_of c.args.self.now in
    let sound = c.invariants.ensures.sound in
    let is = reached_flags c.self.inside c.self.invariant.0 c.args.self.now c.self.view_is (λ net s. IfOk c.reach.result (λ m. IsReachableSet net.imports s.flow net.source m.items)) c.reach.ensures.reach in
    IfOk-weaker c.reach.result (λ m. IsReachableSet net.imports s.flow net.source m.items) (λ m. AreReached net s m.items)
    (λ m r. marks_reached net s m.items sound.network sound.kept.flows r) is

pub returns-clause-near : goal.returns-clause-near
returns-clause-near c = λ quiet.
    let net = c.args.self.now.net in
    let s = state_of c.args.self.now in
    let sound = c.invariants.ensures.sound in
    let is = reached_flags c.self.inside c.self.invariant.0 c.args.self.now c.self.view_is (λ net s. IfOk c.reach.result (λ m. IsReachableSet net.imports s.flow net.source m.items)) c.reach.ensures.reach in
    IfOk-weaker c.reach.result (λ m. IsReachableSet net.imports s.flow net.source m.items) (λ m. AreSourceSide net m.items)
    (λ m r. marks_near net s m.items sound.network sound.kept quiet (marks_reached net s m.items sound.network sound.kept.flows r)) is

pub returns-clause-end : goal.returns-clause-end
returns-clause-end c = λ quiet.
    let net = c.args.self.now.net in
    let s = state_of c.args.self.now in
    let sound = c.invariants.ensures.sound in
    let is = reached_flags c.self.inside c.self.invariant.0 c.args.self.now c.self.view_is (λ net s. IfOk c.reach.result (λ m. IsReachableSet net.imports s.flow net.source m.items)) c.reach.ensures.reach in
    IfOk-weaker c.reach.result (λ m. IsReachableSet net.imports s.flow net.source m.items) (λ m. has m.items net.sink ≡ false)
    (λ m r. sink_outside net s m.items sound.network sound.kept quiet r) is
