use Rattle.std.proofs.Common.{◌≡◌, ◌++◌, take}
use Rattle.ob_scan.specs.declared.kind.Kind.TheVariants as kinds
use Rattle.ob_walk.specs.Items.{items_of, with_items}
use Rattle.ob_tree.specs.TreeEvents.{word, each}
use Rattle.ob_tree.specs.Declaring.{const_events}
use Rattle.ob_walk.proofs.walk.declarations.walk_constants.Given as goal

abbrev pub invariant-loop-constant : goal.invariant-loop-constant
invariant-loop-constant l = l.out ≡ with_items l.initial.out (items_of (each (λ x. const_events x ++ word kinds.Semicolon) (take l.constant-index l.constants)))
