use Rattle.std.proofs.Common.{ℕ, rules, ltb, leb}
use Rattle.std.proofs.lemmas.List.Sorted.{IsPartitionPoint-from_clause, IsPartitionedBy-leb, IsPartitionedBy-ltb}
use Rattle.module_table.specs.declared.rows.TypePart.{TypePart}
use Rattle.ob_interface.proofs.Ranges.{filter_between}
use Rattle.ob_interface.proofs.type_exprs.part_range.Goals as goal

pub returns : goal.returns
returns c =
    let xs = c.args.parts.now in
    let k = c.args.declared_by in
    let n : TypePart → ℕ = λ p. p.declared_by in
    let low = IsPartitionPoint-from_clause (λ (p : TypePart). ltb p.declared_by k) xs _ c.partition_point-first.ensures.partitioned (IsPartitionedBy-ltb n xs k c.requires) (λ a r q h. search rules) in
    let high = IsPartitionPoint-from_clause (λ (p : TypePart). leb p.declared_by k) xs _ c.partition_point-end.ensures.partitioned (IsPartitionedBy-leb n xs k c.requires) (λ a r q h. search rules) in
    filter_between xs k _ _ low high
