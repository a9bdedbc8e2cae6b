use Rattle.std.proofs.Common.{sym, ap, ◌∙◌, rules}
use Rattle.std.specs.Ordering.{is_eq, is_lt}
use Rattle.std.proofs.lemmas.List.Sorted.{IsPartitionPoint-from_clause}
use Rattle.ob_interface.specs.declared.rows.NameIndexEntry.{NameIndexEntry}
use Rattle.ob_interface.specs.Orders.{key_cmp, name_key, index_by_name}
use Rattle.ob_interface.proofs.Ordered.{key_total, exact_keys}
use Rattle.ob_interface.proofs.Ranks.{partitioned, found, none_beyond, none_there, IsEndOfSmaller}
use Rattle.ob_interface.proofs.order.first_index_by_name.Goals as goal
use Rattle.ob_interface.proofs.order.first_index_by_name.Goals.{After-partition_point-at}

point : (c : After-partition_point-at) → IsEndOfSmaller key_cmp (name_key c.args.text.now) c.args.entries.now (c.args.«record», c.args.name.now) c.partition_point-at.result
point c =
    let key = name_key c.args.text.now in
    IsPartitionPoint-from_clause (λ (e : NameIndexEntry). is_lt (key_cmp (key e) (c.args.«record», c.args.name.now))) c.args.entries.now _ c.partition_point-at.ensures.partitioned
    (partitioned key_total exact_keys key index_by_name c.args.entries.now _ c.requires) (λ a r q h. search rules)

pub returns-then-at-entries-clause-none : goal.returns-then-at-entries-clause-none
returns-then-at-entries-clause-none c =
    none_beyond key_total exact_keys (name_key c.args.text.now) index_by_name c.args.entries.now _ _ c.requires (point (goal.at.returns-then-at-entries-clause-none c).After-partition_point-at) c.if-at-entries.true

pub returns-then-is_eq-clause-found : goal.returns-then-is_eq-clause-found
returns-then-is_eq-clause-found c =
    found key_total exact_keys (name_key c.args.text.now) index_by_name c.args.entries.now _ _ _ c.requires (point (goal.at.returns-then-is_eq-clause-found c).After-partition_point-at) c.if-at-entries.false
    (ap is_eq (sym c.compare_key.ensures) ∙ sym c.is_eq.ensures ∙ c.if-is_eq.true)

pub returns-else-is_eq-clause-none : goal.returns-else-is_eq-clause-none
returns-else-is_eq-clause-none c =
    none_there key_total exact_keys (name_key c.args.text.now) index_by_name c.args.entries.now _ _ _ c.requires (point (goal.at.returns-else-is_eq-clause-none c).After-partition_point-at)
    (ap is_eq (sym c.compare_key.ensures) ∙ sym c.is_eq.ensures ∙ c.if-is_eq.false)
