use Rattle.std.proofs.Common.{leb, rules, of_calls}
use Rattle.std.proofs.lemmas.List.Sorted.{IsPartitionPoint-from_clause, IsPartitionedBy-leb}
use Rattle.ob_scan.proofs.LineTables.{some_begins}
use Rattle.ob_scan.proofs.LineHints.{line_found}
use Rattle.ob_scan.proofs.line_search.line_by_search.Goals as goal

pub overflow_sub-result : goal.overflow_sub-result
overflow_sub-result c =
    let xs = c.args.starts.now in
    some_begins xs c.args.offset c.partition_point.result c.requires
    (IsPartitionPoint-from_clause (λ x. leb x c.args.offset) xs c.partition_point.result c.partition_point.ensures.partitioned
    (IsPartitionedBy-leb (λ x. x) xs c.args.offset c.requires.rising) (λ a r f k. search (rules, of_calls)))

pub returns : goal.returns
returns c =
    let xs = c.args.starts.now in
    line_found xs c.args.offset c.partition_point.result c.requires c.partition_point.ensures.bound
    (IsPartitionPoint-from_clause (λ x. leb x c.args.offset) xs c.partition_point.result c.partition_point.ensures.partitioned
    (IsPartitionedBy-leb (λ x. x) xs c.args.offset c.requires.rising) (λ a r f k. search (rules, of_calls)))
