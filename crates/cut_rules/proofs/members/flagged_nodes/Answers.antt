use Rattle.std.proofs.Common.{◌∙◌, ◌+◌, ℕ, sym, ap, subst}
use Rattle.std.specs.Global.{Vec}
use Rattle.cut_rules.proofs.Marking.{marked_next, unmarked_next, AreMarkedBefore}
use Rattle.cut_rules.proofs.members.flagged_nodes.Goals as goal
use Rattle.cut_rules.proofs.members.flagged_nodes.Goals.{then-flags-node+in_ok-push, else-flags-node}

pub loop-node-preserved : goal.loop-node-preserved
loop-node-preserved c =
    let flags = c.args.flags.now in
    let node = c.loop-node.node in
    elim c.if-flags-node.branch [
      | then-flags-node+in_ok-push w ↦ subst (AreMarkedBefore flags (node + 1)) (sym (ap (λ (v : Vec ℕ). v.items) w.nodes-is ∙ w.in_ok-push.ensures.items)) (marked_next flags node c.loop-node.nodes.items w.if-flags-node.true c.loop-node.invariant)
      | else-flags-node w ↦ subst (AreMarkedBefore flags (node + 1)) (sym (ap (λ (v : Vec ℕ). v.items) w.nodes-is)) (unmarked_next flags node c.loop-node.nodes.items w.if-flags-node.false c.loop-node.invariant)
    ]
