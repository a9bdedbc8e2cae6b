use Rattle.std.proofs.Common.{sym, ap, ◌∙◌, rules}
use Rattle.std.specs.Ordering.{is_eq, is_lt, nat_cmp}
use Rattle.std.proofs.lemmas.Cmp.{nat_cmp_total}
use Rattle.std.proofs.lemmas.Map.Lookups.{exact_unsigned}
use Rattle.std.proofs.lemmas.List.Sorted.{IsPartitionPoint-from_clause}
use Rattle.ob_interface.specs.declared.rows.RecordIndexEntry.{RecordIndexEntry}
use Rattle.ob_interface.specs.Orders.{record_key, index_by_record}
use Rattle.ob_interface.proofs.Ranks.{partitioned, found, none_beyond, none_there, IsEndOfSmaller}
use Rattle.ob_interface.proofs.order.first_index_by_record.Goals as goal
use Rattle.ob_interface.proofs.order.first_index_by_record.Goals.{After-partition_point-at}

point : (c : After-partition_point-at) → IsEndOfSmaller nat_cmp record_key c.args.entries.now c.args.«record» c.partition_point-at.result
point c =
    IsPartitionPoint-from_clause (λ (e : RecordIndexEntry). is_lt (nat_cmp (record_key e) c.args.«record»)) c.args.entries.now _ c.partition_point-at.ensures.partitioned
    (partitioned nat_cmp_total exact_unsigned record_key index_by_record c.args.entries.now _ c.requires) (λ a r q h. search rules)

pub returns-then-at-entries-clause-none : goal.returns-then-at-entries-clause-none
returns-then-at-entries-clause-none c =
    none_beyond nat_cmp_total exact_unsigned record_key index_by_record c.args.entries.now _ _ c.requires (point (goal.at.returns-then-at-entries-clause-none c).After-partition_point-at) c.if-at-entries.true

pub returns-then-is_eq-clause-found : goal.returns-then-is_eq-clause-found
returns-then-is_eq-clause-found c =
    found nat_cmp_total exact_unsigned record_key index_by_record c.args.entries.now _ _ _ c.requires (point (goal.at.returns-then-is_eq-clause-found c).After-partition_point-at) c.if-at-entries.false
    (ap is_eq (sym c.cmp.ensures) ∙ sym c.is_eq.ensures ∙ c.if-is_eq.true)

pub returns-else-is_eq-clause-none : goal.returns-else-is_eq-clause-none
returns-else-is_eq-clause-none c =
    none_there nat_cmp_total exact_unsigned record_key index_by_record c.args.entries.now _ _ _ c.requires (point (goal.at.returns-else-is_eq-clause-none c).After-partition_point-at)
    (ap is_eq (sym c.cmp.ensures) ∙ sym c.is_eq.ensures ∙ c.if-is_eq.false)
