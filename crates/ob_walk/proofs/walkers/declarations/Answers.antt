use Rattle.std.proofs.Common.{arith}
use Rattle.ob_walk.proofs.Passes.{passes}
use Rattle.ob_walk.proofs.walkers.declarations.Goals as goal

pub loop-item-init : goal.loop-item-init
loop-item-init c = grind (arith, passes)

pub loop-item-preserved : goal.loop-item-preserved
loop-item-preserved c = grind (arith, passes)

pub returns : goal.returns
returns c = grind (arith, passes)
