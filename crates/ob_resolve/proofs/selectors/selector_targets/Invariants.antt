use Rattle.std.proofs.Common.{◌≡◌}
use Rattle.ob_resolve.proofs.Selecting.{Passed}
use Rattle.ob_resolve.proofs.selectors.selector_targets.Given as goal

abbrev pub invariant-loop-position : goal.invariant-loop-position
invariant-loop-position l = record { types : l.finder ≡ l.types; passed : Passed l.types l.position l.targets.items l.previous_type }
