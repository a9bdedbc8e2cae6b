use Rattle.std.proofs.Common.{◌≡◌, take}
use Rattle.std.specs.List.{filter_map}
use Rattle.ob_walk.specs.Items.{used_by}
use Rattle.ob_walk.proofs.walkers.uses.Given as goal

abbrev pub invariant-loop-item : goal.invariant-loop-item
invariant-loop-item l = l.numbers.items ≡ filter_map used_by (take l.item-index l.item-items)
