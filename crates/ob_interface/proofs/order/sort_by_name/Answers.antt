use Rattle.std.proofs.Common.{◌≡◌, ap, rules}
use Rattle.std.specs.Ordering.{is_lt}
use Rattle.std.proofs.lemmas.Fn.{always_returns_same}
use Rattle.std.proofs.lemmas.List.Sorted.{ranks_by}
use Rattle.ob_interface.specs.declared.rows.NameIndexEntry.{NameIndexEntry}
use Rattle.ob_interface.specs.Orders.{key_cmp, name_key, index_by_name}
use Rattle.ob_interface.specs.IndexEntries.{rank_cmp}
use Rattle.ob_interface.proofs.Ordered.{key_total, exact_keys}
use Rattle.ob_interface.proofs.Ranks.{both, rank_total}
use Rattle.ob_interface.proofs.order.sort_by_name.Goals as goal

pub returns-clause-sorted : goal.returns-clause-sorted
returns-clause-sorted c =
    let key = name_key c.args.text.now in
    c.sort_unstable_by.ensures.sorted (λ (a b : NameIndexEntry). is_lt (rank_cmp key_cmp key index_by_name a b)) (ranks_by (rank_total key_total exact_keys key index_by_name) (both key_total exact_keys key index_by_name))
    (always_returns_same _ _ _ (λ a r q h. let e : r ≡ rank_cmp key_cmp key index_by_name a.0.now a.1.0.now = search rules in (ap is_lt e, search rules)))
