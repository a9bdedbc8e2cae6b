use Rattle.std.proofs.Common.{◌≡◌, ◌++◌, take}
use Rattle.ob_scan.specs.declared.kind.Kind.TheVariants as kinds
use Rattle.ob_walk.specs.Items.{items_of, with_items}
use Rattle.ob_tree.specs.TreeEvents.{word, each}
use Rattle.ob_tree.specs.Declaring.{procedure_events}
use Rattle.ob_walk.proofs.walk.declarations.+declarations.Given as goal

abbrev pub invariant-walk_declarations-loop-procedure : goal.invariant-walk_declarations-loop-procedure
invariant-walk_declarations-loop-procedure l = l.out ≡ with_items l.initial.out (items_of (each (λ p. procedure_events p ++ word kinds.Semicolon) (take l.procedure-index l.procedure-items)))
