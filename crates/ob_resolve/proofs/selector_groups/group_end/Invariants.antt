use Rattle.std.proofs.Common.{◌-◌, length}
use Rattle.ob_resolve.proofs.selector_groups.group_end.Given as goal

abbrev pub decreases-selectors : goal.decreases-selectors
decreases-selectors l = length l.selectors - l.at
