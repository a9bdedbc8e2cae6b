use Rattle.std.proofs.Common.{◌≡◌, take}
use Rattle.ob_scan.specs.declared.kind.Kind.TheVariants as kinds
use Rattle.ob_walk.specs.Items.{items_of, with_items}
use Rattle.ob_tree.specs.TreeEvents.{each_after}
use Rattle.ob_tree.specs.Declaring.{import_events}
use Rattle.ob_walk.proofs.walk.declarations.walk_imports.Given as goal

abbrev pub invariant-loop-import : goal.invariant-loop-import
invariant-loop-import l = l.out ≡ with_items l.initial.out (items_of (each_after kinds.Comma import_events (take l.import-index l.import-items)))
