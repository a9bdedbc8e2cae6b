use Rattle.std.proofs.Common.{◌≡◌, map, take}
use Rattle.ob_view.specs.WorldOfParts.{module_by_item, world_of}
use Rattle.ob_view.proofs.indexed_parts.imported_modules.Given as goal

abbrev pub invariant-loop-item : goal.invariant-loop-item
invariant-loop-item l = l.indexes.items ≡ map (module_by_item (world_of l.parts)) (take l.item-index l.item-items)
