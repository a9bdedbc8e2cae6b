use Rattle.std.proofs.Common.{◌≡◌, ◌<◌, true, false, length, get_or, set, arith, get_or-set_same}
use Rattle.std.proofs.lemmas.Bool.Decides.{nat_tests}
use Rattle.cut_preflow.proofs.Carrying.{active_kept, active_written}
use Rattle.cut_preflow.proofs.excesses.set_excess.Goals as goal
use Rattle.cut_preflow.proofs.excesses.set_excess.Goals.{else-node-ends-via-then-node-ends+else-node-ends-2, else-node-ends-via-else-node-ends}

pub insert-requires : goal.insert-requires
insert-requires c = omega (arith, c.requires.node, c.requires.active.each_tested)

pub remove-requires : goal.remove-requires
remove-requires c = omega (arith, c.requires.node, c.requires.active.each_tested)

pub returns-then-excess-gt0-clause-active : goal.returns-then-excess-gt0-clause-active
returns-then-excess-gt0-clause-active c =
    let excesses = c.args.excesses.now.items in
    let node = c.args.node in
    let within : node < length excesses = omega (arith, c.requires.node, c.requires.active.each_counted) in
    let at : get_or (set excesses node c.args.excess) node 0 ≡ c.args.excess = get_or-set_same excesses node c.args.excess 0 within in
    rw c.insert.ensures
    (active_written c.args.ends excesses c.args.active.now node c.args.excess true c.requires.node c.requires.active
    (grind (arith, nat_tests, at, c.requires.node, c.if-node-ends.true, c.if-node-ends-2.true, c.if-excess-gt0.true)))

pub returns-else-excess-gt0-clause-active : goal.returns-else-excess-gt0-clause-active
returns-else-excess-gt0-clause-active c =
    let excesses = c.args.excesses.now.items in
    let node = c.args.node in
    let within : node < length excesses = omega (arith, c.requires.node, c.requires.active.each_counted) in
    let at : get_or (set excesses node c.args.excess) node 0 ≡ c.args.excess = get_or-set_same excesses node c.args.excess 0 within in
    rw c.remove.ensures
    (active_written c.args.ends excesses c.args.active.now node c.args.excess false c.requires.node c.requires.active
    (grind (arith, nat_tests, at, c.if-excess-gt0.false)))

pub returns-else-node-ends-clause-active : goal.returns-else-node-ends-clause-active
returns-else-node-ends-clause-active c =
    active_kept c.args.ends c.args.excesses.now.items c.args.active.now c.args.node c.args.excess c.requires.active
    (elim c.else-node-ends.branch [
      | else-node-ends-via-then-node-ends+else-node-ends-2 w ↦ λ xs. grind (arith, nat_tests, w.if-node-ends-2.false)
      | else-node-ends-via-else-node-ends w ↦ λ xs. grind (arith, nat_tests, w.if-node-ends.false)
    ])
