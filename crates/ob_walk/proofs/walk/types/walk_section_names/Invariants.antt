use Rattle.std.proofs.Common.{◌≡◌, false, take}
use Rattle.ob_scan.specs.declared.kind.Kind.TheVariants as kinds
use Rattle.ob_walk.specs.Items.{items_of, with_items}
use Rattle.ob_tree.specs.TreeEvents.{declared, each_after}
use Rattle.ob_walk.proofs.walk.types.walk_section_names.Given as goal

abbrev pub invariant-loop-name : goal.invariant-loop-name
invariant-loop-name l = l.out ≡ with_items l.initial.out (items_of (each_after kinds.Comma (declared false) (take l.name-index l.name-items)))
