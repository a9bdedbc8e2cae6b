use Rattle.std.proofs.Common.{rules, sym}
use Rattle.std.specs.Prelude.{nat_lt}
use Rattle.std.proofs.lemmas.List.Sorted.{IsPartitionPoint-from_clause, IsPartitionedBy-ltb}
use Rattle.module_table.specs.declared.rows.TypePart.{TypePart}
use Rattle.module_table.proofs.Groups.{rising}
use Rattle.ob_view.proofs.Firsts.{placed, placed_beyond, placed_nowhere, equal, unequal}
use Rattle.ob_view.proofs.indexes.find_type_part.Goals as goal

pub returns-then-at-parts : goal.returns-then-at-parts
returns-then-at-parts c =
    let n = λ (x : TypePart). x.declared_by in
    let point = IsPartitionPoint-from_clause (λ (x : TypePart). nat_lt x.declared_by c.args.first) c.args.parts.now _ c.partition_point-at.ensures.partitioned (IsPartitionedBy-ltb n c.args.parts.now c.args.first (rising n c.args.parts.now c.requires)) (λ a r q h. search rules) in
    sym (placed_beyond n c.args.parts.now c.args.first _ c.requires point c.if-at-parts.true)

pub returns-then-parts-at : goal.returns-then-parts-at
returns-then-parts-at c =
    let n = λ (x : TypePart). x.declared_by in
    let point = IsPartitionPoint-from_clause (λ (x : TypePart). nat_lt x.declared_by c.args.first) c.args.parts.now _ c.partition_point-at.ensures.partitioned (IsPartitionedBy-ltb n c.args.parts.now c.args.first (rising n c.args.parts.now c.requires)) (λ a r q h. search rules) in
    sym (placed n c.args.parts.now c.args.first _ c.requires point _ c.if-at-parts.false (equal _ _ c.if-parts-at.true))

pub returns-else-parts-at : goal.returns-else-parts-at
returns-else-parts-at c =
    let n = λ (x : TypePart). x.declared_by in
    let point = IsPartitionPoint-from_clause (λ (x : TypePart). nat_lt x.declared_by c.args.first) c.args.parts.now _ c.partition_point-at.ensures.partitioned (IsPartitionedBy-ltb n c.args.parts.now c.args.first (rising n c.args.parts.now c.requires)) (λ a r q h. search rules) in
    sym (placed_nowhere n c.args.parts.now c.args.first _ c.requires point _ c.if-at-parts.false (unequal _ _ c.if-parts-at.false))
