use Rattle.std.proofs.Common.{◌≡◌}
use Rattle.ob_targets.specs.Steps.{Levels}
use Rattle.ob_resolve.proofs.steps.indexed_type.Given as goal

abbrev pub invariant-loop-level : goal.invariant-loop-level
invariant-loop-level l = record { types : l.finder ≡ l.fn.finder; levels : Levels l.fn.finder l._level l.fn.known l.at }
