use Rattle.std.proofs.Common.{arith}
use Rattle.ob_walk.proofs.DeclarationWalks.{module_walks}
use Rattle.ob_walk.proofs.walk.declarations.walk_imports.Goals as goal

pub loop-import-init : goal.loop-import-init
loop-import-init c = grind (arith, module_walks)

pub loop-import-preserved : goal.loop-import-preserved
loop-import-preserved c = grind (arith, module_walks)

pub returns-in-None : goal.returns-in-None
returns-in-None c = grind (arith, module_walks)

pub returns-after-loop-import : goal.returns-after-loop-import
returns-after-loop-import c = grind (arith, module_walks)
