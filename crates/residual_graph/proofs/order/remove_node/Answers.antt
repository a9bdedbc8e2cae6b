use Rattle.std.proofs.Common.{ℕ, ◌<◌, ◌∙◌, ap, vec_len}
use Rattle.std.specs.Global.{Vec}
use Rattle.std.proofs.lemmas.List.Elements.{All-push}
use Rattle.residual_graph.specs.OutArcs.{no_out_arc}
use Rattle.residual_graph.proofs.order.remove_node.Goals as goal
use Rattle.residual_graph.proofs.order.remove_node.Goals.{then-out+then-left-eq0+in_ok-push, then-out+else-left-eq0, else-out}

pub loop-out-preserved : goal.loop-out-preserved
loop-out-preserved c =
    let nodes = c.args.graph.now.nodes in
    let kept = c.loop-out.invariant in
    let out = c.residual_arcs-out-items.ensures.each c.loop-out.out-index no_out_arc c.loop-out-test.true in
    elim c.if-out.branch [
      | then-out+then-left-eq0+in_ok-push w ↦
          let free_is = ap (λ (v : Vec ℕ). v.items) w.free-is ∙ w.in_ok-push.ensures.items in
          record {
            counts = ap vec_len w.counts-is ∙ kept.counts;
            free = rw free_is (All-push (λ n. n < nodes) c.loop-out.free.items _ kept.free out.low);
          }
      | then-out+else-left-eq0 w ↦ record {
        counts = ap vec_len w.counts-is ∙ kept.counts;
        free = rw (ap (λ (v : Vec ℕ). v.items) w.free-is) kept.free;
      }
      | else-out w ↦ record {
        counts = ap vec_len w.counts-is ∙ kept.counts;
        free = rw (ap (λ (v : Vec ℕ). v.items) w.free-is) kept.free;
      }
    ]
