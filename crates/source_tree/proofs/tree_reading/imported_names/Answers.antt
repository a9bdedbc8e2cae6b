use Rattle.std.proofs.Common.{◌<◌, length, rules, ◌∙◌}
use Rattle.source_tree.proofs.TreeFiles.{alias_next}
use Rattle.source_tree.proofs.tree_reading.imported_names.Goals as goal

pub loop-alias-preserved : goal.loop-alias-preserved
loop-alias-preserved c =
    let within : c.loop-alias.alias-index < length c.aliases-alias-items.result.now = search rules in
    rw c.in_ok-push.ensures.items
    (alias_next c.aliases-alias-items.result.now c.args.scopes.now.aliases c.loop-alias.alias-index c.alias-item.result c.loop-alias.names.items c.in_ok-from_str.field-0 c.aliases-alias-items.ensures within c.alias-item.is (c.in_ok-from_str.ensures.ok ∙ c.as_str.ensures.value) c.loop-alias.invariant)
