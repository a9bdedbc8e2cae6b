use Rattle.std.proofs.Common.{◌≡◌, take}
use Rattle.std.specs.List.{filter_map}
use Rattle.ob_walk.specs.Items.{declared_by}
use Rattle.ob_walk.proofs.walkers.declarations.Given as goal

abbrev pub invariant-loop-item : goal.invariant-loop-item
invariant-loop-item l = l.numbers.items ≡ filter_map declared_by (take l.item-index l.item-items)
