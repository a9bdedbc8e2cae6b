use Rattle.std.proofs.Common.{arith}
use Rattle.ob_walk.proofs.TypeWalks.{section_walks}
use Rattle.ob_walk.proofs.walk.types.walk_section_names.Goals as goal

pub loop-name-init : goal.loop-name-init
loop-name-init c = grind (arith, section_walks)

pub loop-name-preserved : goal.loop-name-preserved
loop-name-preserved c = grind (arith, section_walks)

pub returns : goal.returns
returns c = grind (arith, section_walks)
