use Rattle.std.proofs.Common.{arith}
use Rattle.ob_walk.proofs.TypeWalks.{section_walks}
use Rattle.ob_walk.proofs.walk.types.walk_parameters.Goals as goal

pub loop-section-init : goal.loop-section-init
loop-section-init c = grind (arith, section_walks)

pub loop-section-preserved : goal.loop-section-preserved
loop-section-preserved c = grind (arith, section_walks)

pub returns-in-None-result : goal.returns-in-None-result
returns-in-None-result c = grind (arith, section_walks)

pub returns-in-Some-result : goal.returns-in-Some-result
returns-in-Some-result c = grind (arith, section_walks)
