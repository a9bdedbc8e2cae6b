use Rattle.std.proofs.Common.{take}
use Rattle.source_tree.specs.Located.{AreItemPositions}
use Rattle.source_tree.proofs.import_sites.item_positions.Given as goal

abbrev pub invariant-loop-item : goal.invariant-loop-item
invariant-loop-item l = AreItemPositions l.bytes l.tokens (take l.item-index l.items) l.positions.items
