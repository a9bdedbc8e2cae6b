use Rattle.std.proofs.Common.{◌≡◌, drop}
use Rattle.ob_targets.specs.Targets.{last_name}
use Rattle.ob_resolve.proofs.written.last_name.Given as goal

abbrev pub invariant-loop-selector : goal.invariant-loop-selector
invariant-loop-selector l = last_name l.last (drop l.selector-index l.selectors) ≡ last_name l.fn.head l.selectors
