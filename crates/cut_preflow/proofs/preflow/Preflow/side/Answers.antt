use Rattle.std.proofs.Common.{◌≡◌, false, IfOk, subst}
use Rattle.std.proofs.lemmas.Result.{IfOk-weaker}
use Rattle.cut_preflow.specs.Kept.{IsQuiet}
use Rattle.cut_preflow.specs.Flows.{AreSourceSide, AreSourceSideWithPins}
use Rattle.cut_preflow.specs.Trace.{state_of}
use Rattle.cut_preflow.specs.Side.{has}
use Rattle.cut_preflow.proofs.preflow.Preflow.side.Goals as goal

pub returns-clause-near : goal.returns-clause-near
returns-clause-near g c = subst (λ p. IsQuiet p.trace.net (state_of p.trace) → IfOk c.side.result (λ m. AreSourceSide p.trace.net m.items)) c.self.view_is c.side.ensures.near

pub returns-clause-source_side_with_pins : goal.returns-clause-source_side_with_pins
returns-clause-source_side_with_pins g c = λ quiet.
    let p = c.args.self.now.trace.net in
    let near = (subst (λ p. IsQuiet p.trace.net (state_of p.trace) → IfOk c.side.result (λ m. AreSourceSide p.trace.net m.items)) c.self.view_is c.side.ensures.near) quiet in
    IfOk-weaker c.side.result (λ m. AreSourceSide p m.items) (λ m. AreSourceSideWithPins p m.items)
    (λ m are net of pins none v.
    let same = c.source_side_with_pins.ensures.near net p.source p.sink v pins none in
    (λ t. same.1 ((are net of v).0 t), λ is. (are net of v).1 (same.0 is))) near

pub returns-clause-end : goal.returns-clause-end
returns-clause-end g c = subst (λ p. IsQuiet p.trace.net (state_of p.trace) → IfOk c.side.result (λ m. has m.items p.trace.net.sink ≡ false)) c.self.view_is c.side.ensures.end
