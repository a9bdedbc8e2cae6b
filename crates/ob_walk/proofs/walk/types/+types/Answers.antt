use Rattle.std.proofs.Common.{arith}
use Rattle.ob_walk.proofs.TypeWalks.{type_walks}
use Rattle.ob_walk.proofs.walk.types.+types.Goals as goal

pub walk_fields-loop-field-init : goal.walk_fields-loop-field-init
walk_fields-loop-field-init t c = grind (arith, type_walks)

pub walk_fields-loop-field-preserved : goal.walk_fields-loop-field-preserved
walk_fields-loop-field-preserved t c = grind (arith, type_walks)

pub walk_fields-returns-else-fields : goal.walk_fields-returns-else-fields
walk_fields-returns-else-fields t c = grind (arith, type_walks)

pub walk_record-returns : goal.walk_record-returns
walk_record-returns t c = grind (arith, type_walks)

pub walk_type-returns-in-Named : goal.walk_type-returns-in-Named
walk_type-returns-in-Named t c = grind (arith, type_walks)

pub walk_type-returns-in-ArrayOf : goal.walk_type-returns-in-ArrayOf
walk_type-returns-in-ArrayOf t c = grind (arith, type_walks)

pub walk_type-returns-in-RecordOf : goal.walk_type-returns-in-RecordOf
walk_type-returns-in-RecordOf t c = grind (arith, type_walks)

pub walk_type-returns-in-PointerTo : goal.walk_type-returns-in-PointerTo
walk_type-returns-in-PointerTo t c = grind (arith, type_walks)

pub walk_type-returns-in-None : goal.walk_type-returns-in-None
walk_type-returns-in-None t c = grind (arith, type_walks)

pub walk_type-returns-in-Some : goal.walk_type-returns-in-Some
walk_type-returns-in-Some t c = grind (arith, type_walks)

pub walk_var-loop-name-init : goal.walk_var-loop-name-init
walk_var-loop-name-init t c = grind (arith, type_walks)

pub walk_var-loop-name-preserved : goal.walk_var-loop-name-preserved
walk_var-loop-name-preserved t c = grind (arith, type_walks)

pub walk_var-returns : goal.walk_var-returns
walk_var-returns t c = grind (arith, type_walks)
