use Rattle.ob_scope.specs.BlockTypes.{AreTypes}
use Rattle.ob_scope.proofs.block_types.index_block_types.Given as goal

abbrev pub invariant-loop-i : goal.invariant-loop-i
invariant-loop-i l = AreTypes l.members l.numbers l.i l.types
