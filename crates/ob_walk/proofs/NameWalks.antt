-- The items of names, from those of their tokens.
use Rattle.std.proofs.Common.{◌≡◌, ◌∷◌, refl}
use Rattle.ob_scan.specs.declared.kind.Kind.TheVariants as kinds
use Rattle.ob_walk.specs.declared.item.Item.TheVariants as items
use Rattle.ob_tree.specs.declared.role.Role.TheVariants as roles
use Rattle.ob_tree.specs.declared.name.Qualident.{Qualident}
use Rattle.ob_tree.specs.declared.name.Identdef.{Identdef}
use Rattle.ob_tree.specs.TreeEvents.{word, completed, if_present, if_true}
use Rattle.std.proofs.Common.{◌++◌}
use Rattle.ob_walk.specs.Items.{items_of}
use Rattle.ob_tree.specs.Names.{qualident_events, identdef_events}
use Rattle.ob_tree.proofs.NameLayers.{qualident_out, identdef_out}
use Rattle.ob_walk.proofs.Walks.{walks}

pub qualident_items : (q : Qualident) → items_of (qualident_events q) ≡ items.Identifier roles.Uses q.head ∷ items_of (if_present (λ m. word kinds.Dot ++ completed m) q.member)
qualident_items q = rw (qualident_out q) refl

pub identdef_items : (i : Identdef) → items_of (identdef_events i) ≡ items.Identifier (roles.Declares i.is_exported) i.name ∷ items_of (if_true i.is_exported (word kinds.Star))
identdef_items i = rw (identdef_out i) refl

pub ruleset name_items = (walks, qualident_items, identdef_items)
