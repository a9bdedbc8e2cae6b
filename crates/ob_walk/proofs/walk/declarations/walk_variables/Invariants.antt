use Rattle.std.proofs.Common.{◌≡◌, ◌++◌, take}
use Rattle.ob_scan.specs.declared.kind.Kind.TheVariants as kinds
use Rattle.ob_walk.specs.Items.{items_of, with_items}
use Rattle.ob_tree.specs.TreeEvents.{word, each}
use Rattle.ob_tree.specs.Declaring.{variable_events}
use Rattle.ob_walk.proofs.walk.declarations.walk_variables.Given as goal

abbrev pub invariant-loop-declared : goal.invariant-loop-declared
invariant-loop-declared l = l.out ≡ with_items l.initial.out (items_of (each (λ x. variable_events x ++ word kinds.Semicolon) (take l.declared-index l.variables)))
