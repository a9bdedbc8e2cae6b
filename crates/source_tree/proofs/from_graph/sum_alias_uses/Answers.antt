use Rattle.std.proofs.Common.{◌≡◌, ℕ, ◌<◌, List, length, refl, arith, rules}
use Rattle.std.specs.Str.{bytes_eq}
use Rattle.std.proofs.lemmas.Map.Text.{hash_map_updates_str}
use Rattle.indexmap.specs.IndexMap.{get_by}
use Rattle.scopes.specs.ScopesInvariant.{alias_of}
use Rattle.source_tree.specs.GraphNet.{sum_in}
use Rattle.source_tree.proofs.GraphTables.{across_fits, alias_at, sums_next}
use Rattle.source_tree.proofs.from_graph.sum_alias_uses.Goals as goal

pub overflow_add-before : goal.overflow_add-before
overflow_add-before c =
    let list = c.args.scopes.now.aliases in
    let a = alias_of c.alias-item.result in
    let inside : c.loop-alias.alias-index < length c.aliases-alias-items.result.now = search rules in
    let (within, at, there) = alias_at c.aliases-alias-items.result.now list c.loop-alias.alias-index c.alias-item.result c.aliases-alias-items.ensures inside c.alias-item.is in
    let uses : c.qualified_uses.result ≡ a.uses = c.qualified_uses.ensures.found a there refl in
    let was : c.unwrap_or-before.result ≡ sum_in c.loop-alias.sums c.as_str-name.result.now = search rules in
    let so_far = c.loop-alias.invariant c.as_str-name.result.now in
    let fits = rw at at (across_fits list c.loop-alias.alias-index a c.as_str-name.result.now within) in
    let few = c.invariants.ensures.few in
    omega arith

pub loop-alias-preserved : goal.loop-alias-preserved
loop-alias-preserved c =
    let list = c.args.scopes.now.aliases in
    let a = alias_of c.alias-item.result in
    let inside : c.loop-alias.alias-index < length c.aliases-alias-items.result.now = search rules in
    let (within, at, there) = alias_at c.aliases-alias-items.result.now list c.loop-alias.alias-index c.alias-item.result c.aliases-alias-items.ensures inside c.alias-item.is in
    let uses : c.qualified_uses.result ≡ a.uses = c.qualified_uses.ensures.found a there refl in
    let was : c.unwrap_or-before.result ≡ sum_in c.loop-alias.sums c.as_str-name.result.now = search rules in
    sums_next list c.loop-alias.alias-index a c.as_str-name.result.now c.unwrap_or-before.result c.qualified_uses.result (λ (q : List ℕ). get_by (λ k. bytes_eq q k.now) c.loop-alias.sums) (λ (q : List ℕ). get_by (λ k. bytes_eq q k.now) c.insert.new.self)
    within at c.as_str-name.ensures.value uses was
    (λ q. hash_map_updates_str c.as_str-name.result.now c.loop-alias.sums c.insert.new.self _ c.in_ok-insert.ensures.updates q)
    c.loop-alias.invariant
