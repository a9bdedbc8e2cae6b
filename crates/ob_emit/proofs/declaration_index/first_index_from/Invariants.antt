use Rattle.std.proofs.Common.{length, ◌-◌}
use Rattle.ob_emit.specs.Boundaries.{AreBefore}
use Rattle.ob_emit.proofs.declaration_index.first_index_from.Given as goal

abbrev pub invariant-rows : goal.invariant-rows
invariant-rows l = AreBefore l.declared l.number l.place

abbrev pub decreases-rows : goal.decreases-rows
decreases-rows l = length l.declared - l.place
