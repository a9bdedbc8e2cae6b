use Rattle.std.proofs.Common.{arith}
use Rattle.cut_part.proofs.CapacityReduction.{renumbering}
use Rattle.cut_part.proofs.order.import_ranges_of.Goals as goal

pub index-requires : goal.index-requires
index-requires c = let low = c.requires.between _ (renumbering c.args.imports.now c.loop-number.number c.loop-number-test.true) in omega (arith, low.0, c.loop-number.invariant.ends)

pub index_mut-requires : goal.index_mut-requires
index_mut-requires c = let low = c.requires.between _ (renumbering c.args.imports.now c.loop-number.number c.loop-number-test.true) in omega (arith, low.0, c.loop-number.invariant.begins)

pub index_mut-requires-in-loop-number : goal.index_mut-requires-in-loop-number
index_mut-requires-in-loop-number c = let low = c.requires.between _ (renumbering c.args.imports.now c.loop-number.number c.loop-number-test.true) in omega (arith, low.0, c.loop-number.invariant.ends)

pub index-requires-in-loop-number : goal.index-requires-in-loop-number
index-requires-in-loop-number c = let low = c.requires.between _ (renumbering c.args.imports.now c.loop-number.number c.loop-number-test.true) in omega (arith, low.1, c.loop-number.invariant.entering)

pub index_mut-requires-in-loop-number-2 : goal.index_mut-requires-in-loop-number-2
index_mut-requires-in-loop-number-2 c = let low = c.requires.between _ (renumbering c.args.imports.now c.loop-number.number c.loop-number-test.true) in omega (arith, low.1, c.loop-number.invariant.entering)
