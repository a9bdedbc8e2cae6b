use Rattle.std.proofs.Common.{◌≡◌, ap, rules}
use Rattle.std.specs.Ordering.{is_lt, nat_cmp}
use Rattle.std.proofs.lemmas.Cmp.{nat_cmp_total}
use Rattle.std.proofs.lemmas.Map.Lookups.{exact_unsigned}
use Rattle.std.proofs.lemmas.Fn.{always_returns_same}
use Rattle.std.proofs.lemmas.List.Sorted.{ranks_by}
use Rattle.ob_interface.specs.declared.rows.RecordIndexEntry.{RecordIndexEntry}
use Rattle.ob_interface.specs.Orders.{record_key, index_by_record}
use Rattle.ob_interface.specs.IndexEntries.{rank_cmp}
use Rattle.ob_interface.proofs.Ranks.{both, rank_total}
use Rattle.ob_interface.proofs.order.sort_by_record.Goals as goal

pub returns-clause-sorted : goal.returns-clause-sorted
returns-clause-sorted c =
    c.sort_unstable_by.ensures.sorted (λ (a b : RecordIndexEntry). is_lt (rank_cmp nat_cmp record_key index_by_record a b)) (ranks_by (rank_total nat_cmp_total exact_unsigned record_key index_by_record) (both nat_cmp_total exact_unsigned record_key index_by_record))
    (always_returns_same _ _ _ (λ a r q h. let e : r ≡ rank_cmp nat_cmp record_key index_by_record a.0.now a.1.0.now = search rules in (ap is_lt e, search rules)))
