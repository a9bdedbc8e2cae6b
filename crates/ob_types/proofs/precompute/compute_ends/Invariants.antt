use Rattle.std.proofs.Common.{◌≡◌}
use Rattle.ob_types.specs.PrecomputedEnds.{AreAllEndsOf}
use Rattle.ob_types.proofs.precompute.compute_ends.Given as goal

abbrev pub invariant-loop-reached : goal.invariant-loop-reached
invariant-loop-reached l = record { graph : l.finder ≡ l.fn.finder; ends : AreAllEndsOf l.fn.finder l.all }
