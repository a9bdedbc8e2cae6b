-- The entries between the two indexes that the searches find.
use Rattle.std.proofs.Common.{rules, ◌-◌, take, drop, length}
use Rattle.std.specs.Prelude.{nat_lt, nat_le}
use Rattle.std.specs.List.Sorted.{IsNonDecreasingBy}
use Rattle.std.proofs.lemmas.List.{take_rest}
use Rattle.std.proofs.lemmas.List.Sorted.{IsPartitionPoint-from_clause, IsPartitionedBy-ltb, IsPartitionedBy-leb, IsNonDecreasingBy-take, IsNonDecreasingBy-drop}
use Rattle.module_table.proofs.Groups.{grouped, rising}
use Rattle.module_table.proofs.order.group_of.Goals as goal

pub returns : goal.returns
returns g c =
    let n = g.T.Grouped.group_in in
    let rows = c.args.rows.now in
    let i = c.partition_point-from.result in
    let rest = take (length rows - i) (drop i rows) in
    let up : IsNonDecreasingBy n rows = rising n rows c.requires in
    let first = IsPartitionPoint-from_clause (λ y. nat_lt (n y) c.args.group) rows i c.partition_point-from.ensures.partitioned (IsPartitionedBy-ltb n rows c.args.group up) (λ a r q k. search rules) in
    let second = IsPartitionPoint-from_clause (λ y. nat_le (n y) c.args.group) rest c.partition_point-many.result c.partition_point-many.ensures.partitioned
    (IsPartitionedBy-leb n rest c.args.group (IsNonDecreasingBy-take n (length rows - i) (drop i rows) (IsNonDecreasingBy-drop n i rows up))) (λ a r q k. search rules) in
    grouped n rows rest c.args.group i c.partition_point-many.result (take_rest rows i) c.partition_point-from.ensures.bound c.partition_point-many.ensures.bound first.0 first.1 second.0 second.1
