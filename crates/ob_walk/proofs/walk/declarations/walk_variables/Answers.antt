use Rattle.std.proofs.Common.{arith}
use Rattle.ob_walk.proofs.DeclarationWalks.{section_walks}
use Rattle.ob_walk.proofs.walk.declarations.walk_variables.Goals as goal

pub loop-declared-init : goal.loop-declared-init
loop-declared-init c = grind (arith, section_walks)

pub loop-declared-preserved : goal.loop-declared-preserved
loop-declared-preserved c = grind (arith, section_walks)

pub returns : goal.returns
returns c = grind (arith, section_walks)
