use Rattle.std.proofs.Common.{◌≡◌, ap, rules}
use Rattle.std.specs.Ordering.{is_lt}
use Rattle.std.proofs.lemmas.Fn.{always_returns_same}
use Rattle.std.proofs.lemmas.List.Sorted.{ranks_by}
use Rattle.type_graph.specs.declared.field_entries.FieldEntry.{FieldEntry}
use Rattle.type_graph.specs.PathOrder.{field_key_cmp, field_key_of}
use Rattle.type_graph.proofs.Standing.{stand_total}
use Rattle.type_graph.proofs.field_entries.sort_by_name.Goals as goal

pub returns-clause-sorted : goal.returns-clause-sorted
returns-clause-sorted c =
    c.sort_unstable_by.ensures.sorted (λ (a b : FieldEntry). is_lt (field_key_cmp (field_key_of a) (field_key_of b))) (ranks_by stand_total field_key_of)
    (always_returns_same _ _ _ (λ a r q h. let e : r ≡ field_key_cmp (field_key_of a.0.now) (field_key_of a.1.0.now) = search rules in (ap is_lt e, search rules)))
