-- One module after the other.
use Rattle.std.proofs.Common.{◌<◌, length, arith}
use Rattle.ob_imports.specs.Graphs.{CanStart}
use Rattle.digraph.specs.Marks.{lists}
use Rattle.ob_imports.proofs.Lists.{listed-none, listed-yes, listed-no, listed-all}
use Rattle.ob_imports.proofs.ready.ready_modules.Goals as goal
use Rattle.ob_imports.proofs.ready.ready_modules.Goals.{then-can_start+in_ok-push, else-can_start}

pub loop-node-init : goal.loop-node-init
loop-node-init c = rw c.new-ready.ensures.items (listed-none _)

pub loop-node-preserved : goal.loop-node-preserved
loop-node-preserved c =
    let P = CanStart (lists c.args.imports.now) c.args.done.now in
    elim c.if-can_start.branch [
      | then-can_start+in_ok-push w ↦
          rw (w.ready-is, w.in_ok-push.ensures.items) (listed-yes P c.loop-node.ready.items c.loop-node.node c.loop-node.invariant (c.can_start.ensures.can w.if-can_start.true))
      | else-can_start w ↦
          rw w.ready-is (listed-no P c.loop-node.ready.items c.loop-node.node c.loop-node.invariant (c.can_start.ensures.not w.if-can_start.false))
    ]

pub returns : goal.returns
returns c = listed-all _ c.loop-node.ready.items c.loop-node.node c.loop-node.invariant (λ v r. (let l : v < length c.args.done.now = r.in_tree in omega arith))
