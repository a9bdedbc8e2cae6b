use Rattle.std.proofs.Common.{◌≡◌, take}
use Rattle.ob_scan.specs.declared.kind.Kind.TheVariants as kinds
use Rattle.ob_walk.specs.Items.{items_of, with_items}
use Rattle.ob_tree.specs.Constructs as constructs
use Rattle.ob_tree.specs.TreeEvents.{construct, each_after}
use Rattle.ob_tree.specs.Names.{identdef_events}
use Rattle.ob_tree.specs.Types.{var_events}
use Rattle.ob_walk.proofs.walk.types.+types.Given as goal

abbrev pub invariant-walk_fields-loop-field : goal.invariant-walk_fields-loop-field
invariant-walk_fields-loop-field l = l.out ≡ with_items l.initial.out (items_of (each_after kinds.Semicolon (λ v. construct constructs.FieldList (var_events v)) (take l.field-index l.field-items)))

abbrev pub invariant-walk_var-loop-name : goal.invariant-walk_var-loop-name
invariant-walk_var-loop-name l = l.out ≡ with_items l.initial.out (items_of (each_after kinds.Comma identdef_events (take l.name-index l.name-items)))
