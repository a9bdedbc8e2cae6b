use Rattle.std.proofs.Common.{arith}
use Rattle.ob_walk.proofs.DeclarationWalks.{section_walks}
use Rattle.ob_walk.proofs.walk.declarations.walk_constants.Goals as goal

pub loop-constant-init : goal.loop-constant-init
loop-constant-init c = grind (arith, section_walks)

pub loop-constant-preserved : goal.loop-constant-preserved
loop-constant-preserved c = grind (arith, section_walks)

pub returns : goal.returns
returns c = grind (arith, section_walks)
