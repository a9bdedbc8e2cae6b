use Rattle.std.proofs.Common.{◌≡◌, ◌∙◌, map, get_or, length, sym, ap, subst, arith}
use Rattle.std.proofs.lemmas.List.{get_or-map, length-map}
use Rattle.residual_graph.specs.OutArcs.{no_out_arc}
use Rattle.cut_preflow.specs.FlowGraphs.{out_arc_number}
use Rattle.cut_preflow.specs.Preflow.{head, label_at, residual}
use Rattle.cut_preflow.specs.Trace.{state_of}
use Rattle.cut_preflow.proofs.Least.{Lowest, Lowest-more, Lowest-no, Lowest-none, Lowest-skip, Lowest-some}
use Rattle.cut_preflow.proofs.preflow_core.PreflowCore.least_label.Goals as goal
use Rattle.cut_preflow.proofs.preflow_core.PreflowCore.least_label.Goals.{After-loop-out, then-out-gt0, else-out-gt0}

pub label-label-requires : goal.label-label-requires
label-label-requires c = (c.out_arcs-out-items.ensures.each c.loop-out.out-index no_out_arc c.loop-out-test.true).arc.low

pub loop-out-init : goal.loop-out-init
loop-out-init c = Lowest-none c.args.self.now.net (state_of c.args.self.now) (map out_arc_number c.out_arcs-out-items.result.now)

pub loop-out-preserved : goal.loop-out-preserved
loop-out-preserved c =
    let net = c.args.self.now.net in
    let s = state_of c.args.self.now in
    let outs = c.out_arcs-out-items.result.now in
    let arcs = map out_arc_number outs in
    let k = c.loop-out.out-index in
    let out = c.out_arcs-out-items.ensures.each k no_out_arc c.loop-out-test.true in
    let number = get_or-map out_arc_number outs k no_out_arc 0 c.loop-out-test.true in
    let left : residual net s (get_or arcs k 0) ≡ (get_or outs k no_out_arc).residual = ap (residual net s) number ∙ sym out.arc.residual_is in
    elim c.if-out-gt0.branch [
      | then-out-gt0 w ↦
          let at : label_at s (head net (get_or arcs k 0)) ≡ w.label-label.result = ap (λ a. label_at s (head net a)) number ∙ ap (label_at s) (sym out.arc.head_is) ∙ sym w.label-label.ensures.value in
          rw (w.least-is, w.smaller.ensures)
          (Lowest-more net s arcs k c.loop-out.least w.label-label.result c.loop-out.invariant (omega (arith, left, w.if-out-gt0.true)) at)
      | else-out-gt0 w ↦ rw (w.least-is) (Lowest-skip net s arcs k c.loop-out.least c.loop-out.invariant (omega (arith, left, w.if-out-gt0.false)))
    ]

whole : (c : After-loop-out) → Lowest c.args.self.now.net (state_of c.args.self.now) (map out_arc_number c.out_arcs-out-items.result.now) (length (map out_arc_number c.out_arcs-out-items.result.now)) c.loop-out.least
whole c =
    let all : c.loop-out.out-index ≡ length (map out_arc_number c.out_arcs-out-items.result.now) = omega (arith, c.loop-out-test.false, c.loop-out.auto.out-index-end, length-map c.out_arcs-out-items.result.now out_arc_number) in
    subst (λ k. Lowest c.args.self.now.net (state_of c.args.self.now) (map out_arc_number c.out_arcs-out-items.result.now) k c.loop-out.least) all c.loop-out.invariant

pub returns-clause-some : goal.returns-clause-some
returns-clause-some c = Lowest-some c.args.self.now.net (state_of c.args.self.now) (map out_arc_number c.out_arcs-out-items.result.now) c.args.node c.out_arcs-out-items.ensures.arcs c.loop-out.least (whole c)

pub returns-clause-none : goal.returns-clause-none
returns-clause-none c = Lowest-no c.args.self.now.net (state_of c.args.self.now) (map out_arc_number c.out_arcs-out-items.result.now) c.args.node c.out_arcs-out-items.ensures.arcs c.loop-out.least (whole c)
