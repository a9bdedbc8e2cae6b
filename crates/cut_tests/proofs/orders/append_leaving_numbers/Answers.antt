use Rattle.std.proofs.Common.{ℕ, ◌<◌, length, subst, sym, arith}
use Rattle.std.specs.Global.{Vec}
use Rattle.std.specs.Prelude.{All}
use Rattle.std.proofs.lemmas.List.Elements.{All-push}
use Rattle.residual_graph.specs.OutArcs.{no_out_arc}
use Rattle.cut_tests.proofs.orders.append_leaving_numbers.Goals as goal
use Rattle.cut_tests.proofs.orders.append_leaving_numbers.Goals.{then-out+in_ok-push, else-out}

pub overflow_cast-out : goal.overflow_cast-out
overflow_cast-out c =
    let known = (c.residual_arcs-out-items.ensures.each c.loop-out.out-index no_out_arc c.loop-out-test.true).known in
    let few = c.requires.few in
    omega arith

pub loop-out-preserved : goal.loop-out-preserved
loop-out-preserved c =
    let known = (c.residual_arcs-out-items.ensures.each c.loop-out.out-index no_out_arc c.loop-out-test.true).known in
    elim c.if-out.branch [
      | then-out+in_ok-push w ↦ subst (λ (v : Vec ℕ). All (λ k. k < length c.args.graph.now.arcs) v.items) (sym w.numbers-is)
          (subst (All (λ k. k < length c.args.graph.now.arcs)) (sym w.in_ok-push.ensures.items) (All-push (λ k. k < length c.args.graph.now.arcs) c.loop-out.numbers.items _ c.loop-out.invariant known))
      | else-out w ↦ subst (λ (v : Vec ℕ). All (λ k. k < length c.args.graph.now.arcs) v.items) (sym w.numbers-is) c.loop-out.invariant
    ]
