use Rattle.std.proofs.Common.{◌∙◌, get_or, sym, ap, arith, below_more}
use Rattle.std.proofs.lemmas.List.{get_or_default}
use Rattle.residual_graph.specs.OutArcs.{no_out_arc}
use Rattle.cut_preflow.specs.FlowGraphs.{out_arc_number}
use Rattle.cut_preflow.specs.Preflow.{can_push, count}
use Rattle.cut_preflow.specs.Trace.{state_of}
use Rattle.cut_preflow.proofs.Graphs.{arc_low}
use Rattle.cut_preflow.proofs.preflow_core.PreflowCore.first_pushable_arc.Goals as goal

pub can_push-requires-clause-out : goal.can_push-requires-clause-out
can_push-requires-clause-out c = c.requires.each c.loop-out.out-index no_out_arc c.loop-out-test.true

pub arc_number-requires : goal.arc_number-requires
arc_number-requires c =
    let out = c.requires.each c.loop-out.out-index no_out_arc c.loop-out-test.true in
    let low = arc_low (get_or c.args.outs.now c.loop-out.out-index no_out_arc).step.arc (get_or c.args.outs.now c.loop-out.out-index no_out_arc).step.forward (count c.args.self.now.net) out.arc.known in
    omega (arith, low, c.requires.few)

pub loop-out-preserved : goal.loop-out-preserved
loop-out-preserved c =
    below_more _ _ c.loop-out.invariant
    (λ d. ap (λ a. can_push c.args.self.now.net (state_of c.args.self.now) (out_arc_number a)) (get_or_default c.args.outs.now c.loop-out.out-index d no_out_arc c.loop-out-test.true)
    ∙ sym (c.can_push.ensures c.requires.active) ∙ c.if-can_push.false)

pub returns-then-can_push-clause-some : goal.returns-then-can_push-clause-some
returns-then-can_push-clause-some c = ap (can_push c.args.self.now.net (state_of c.args.self.now)) c.arc_number.ensures ∙ sym (c.can_push.ensures c.requires.active) ∙ c.if-can_push.true

pub returns-clause-none : goal.returns-clause-none
returns-clause-none c = λ _ j d low. c.loop-out.invariant j (omega (arith, low, c.loop-out-test.false)) d
