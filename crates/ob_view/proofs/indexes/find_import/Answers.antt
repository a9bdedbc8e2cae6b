use Rattle.std.proofs.Common.{rules, sym}
use Rattle.std.specs.Prelude.{nat_lt}
use Rattle.std.proofs.lemmas.List.Sorted.{IsPartitionPoint-from_clause, IsPartitionedBy-ltb}
use Rattle.module_table.specs.declared.rows.Import.{Import}
use Rattle.module_table.proofs.Groups.{rising}
use Rattle.ob_view.proofs.Firsts.{placed, placed_beyond, placed_nowhere, equal, unequal}
use Rattle.ob_view.proofs.indexes.find_import.Goals as goal

pub returns-then-at-imports : goal.returns-then-at-imports
returns-then-at-imports c =
    let n = λ (x : Import). x.alias in
    let point = IsPartitionPoint-from_clause (λ (x : Import). nat_lt x.alias c.args.alias) c.args.imports.now _ c.partition_point-at.ensures.partitioned (IsPartitionedBy-ltb n c.args.imports.now c.args.alias (rising n c.args.imports.now c.requires.rise)) (λ a r q h. search rules) in
    sym (placed_beyond n c.args.imports.now c.args.alias _ c.requires.rise point c.if-at-imports.true)

pub returns-then-imports-at : goal.returns-then-imports-at
returns-then-imports-at c =
    let n = λ (x : Import). x.alias in
    let point = IsPartitionPoint-from_clause (λ (x : Import). nat_lt x.alias c.args.alias) c.args.imports.now _ c.partition_point-at.ensures.partitioned (IsPartitionedBy-ltb n c.args.imports.now c.args.alias (rising n c.args.imports.now c.requires.rise)) (λ a r q h. search rules) in
    sym (placed n c.args.imports.now c.args.alias _ c.requires.rise point _ c.if-at-imports.false (equal _ _ c.if-imports-at.true))

pub returns-else-imports-at : goal.returns-else-imports-at
returns-else-imports-at c =
    let n = λ (x : Import). x.alias in
    let point = IsPartitionPoint-from_clause (λ (x : Import). nat_lt x.alias c.args.alias) c.args.imports.now _ c.partition_point-at.ensures.partitioned (IsPartitionedBy-ltb n c.args.imports.now c.args.alias (rising n c.args.imports.now c.requires.rise)) (λ a r q h. search rules) in
    sym (placed_nowhere n c.args.imports.now c.args.alias _ c.requires.rise point _ c.if-at-imports.false (unequal _ _ c.if-imports-at.false))
