use Rattle.std.proofs.Common.{◌≡◌, ◌++◌}
use Rattle.ob_scan.specs.declared.kind.Kind.TheVariants as kinds
use Rattle.ob_walk.specs.Items.{items_of, with_items}
use Rattle.ob_tree.specs.TreeEvents.{word, times}
use Rattle.ob_walk.proofs.walk.types.walk_open_arrays.Given as goal

abbrev pub invariant-loop-level : goal.invariant-loop-level
invariant-loop-level l = l.out ≡ with_items l.initial.out (items_of (times l.level (word kinds.Array ++ word kinds.Of)))
