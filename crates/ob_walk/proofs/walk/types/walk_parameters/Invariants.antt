use Rattle.std.proofs.Common.{◌≡◌, take}
use Rattle.ob_scan.specs.declared.kind.Kind.TheVariants as kinds
use Rattle.ob_walk.specs.Items.{items_of, with_items}
use Rattle.ob_tree.specs.TreeEvents.{each_after}
use Rattle.ob_tree.specs.Types.{section_events}
use Rattle.ob_walk.proofs.walk.types.walk_parameters.Given as goal

abbrev pub invariant-loop-section : goal.invariant-loop-section
invariant-loop-section l = l.out ≡ with_items l.initial.out (items_of (each_after kinds.Semicolon section_events (take l.section-index l.section-items)))
