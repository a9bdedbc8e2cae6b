use Rattle.std.specs.Ordering.{is_le}
use Rattle.std.proofs.lemmas.List.Sorted.{IsPartitionPoint-from_clause}
use Rattle.type_graph.specs.declared.field_entries.FieldEntry.{FieldEntry}
use Rattle.type_graph.specs.PathOrder.{field_key_cmp, field_key_of, FieldKey}
use Rattle.type_graph.proofs.Standing.{partitioned}
use Rattle.type_graph.proofs.field_entries.count_up_to.Goals as goal

pub returns : goal.returns
returns c =
    let x : FieldKey = (c.args.name.now, c.args.slot) in
    IsPartitionPoint-from_clause (λ (e : FieldEntry). is_le (field_key_cmp (field_key_of e) x)) c.args.fields.now c.partition_point.result c.partition_point.ensures.partitioned (partitioned c.args.fields.now x c.requires)
    (λ a r q h. (h.met.1, λ i. (h.met.0.0 i, h.met.0.1 i)))
