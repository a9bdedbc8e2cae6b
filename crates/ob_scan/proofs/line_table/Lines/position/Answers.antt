use Rattle.std.proofs.Common.{arith, leb, ◌∙◌, rules, of_calls}
use Rattle.std.proofs.lemmas.List.Sorted.{IsPartitionPoint-from_clause, IsPartitionedBy-leb}
use Rattle.ob_scan.specs.Position.{IsLineTable}
use Rattle.ob_scan.proofs.LineTables.{place_is, some_begins, last_begins}
use Rattle.ob_scan.proofs.line_table.Lines.position.Goals as goal

pub overflow_sub-line : goal.overflow_sub-line
overflow_sub-line c =
    let xs = c.as_slice-starts.result.now in
    let table : IsLineTable xs = rw c.as_slice-starts.ensures.value c.self.invariant in
    some_begins xs c.args.offset c.partition_point-line.result table
    (IsPartitionPoint-from_clause (λ x. leb x c.args.offset) xs c.partition_point-line.result c.partition_point-line.ensures.partitioned
    (IsPartitionedBy-leb (λ x. x) xs c.args.offset table.rising) (λ a r f k. search (rules, of_calls)))

pub overflow_sub-result : goal.overflow_sub-result
overflow_sub-result c =
    let xs = c.as_slice-starts.result.now in
    let table : IsLineTable xs = rw c.as_slice-starts.ensures.value c.self.invariant in
    last_begins xs c.args.offset c.partition_point-line.result table
    (IsPartitionPoint-from_clause (λ x. leb x c.args.offset) xs c.partition_point-line.result c.partition_point-line.ensures.partitioned
    (IsPartitionedBy-leb (λ x. x) xs c.args.offset table.rising) (λ a r f k. search (rules, of_calls)))

pub returns : goal.returns
returns c bytes is within =
    let xs = c.as_slice-starts.result.now in
    let table : IsLineTable xs = rw c.as_slice-starts.ensures.value c.self.invariant in
    place_is bytes xs c.args.offset c.partition_point-line.result (omega (arith, c.ranges.offset.fits)) (c.as_slice-starts.ensures.value ∙ (c.self.view_is ∙ is)) within c.partition_point-line.ensures.bound
    (IsPartitionPoint-from_clause (λ x. leb x c.args.offset) xs c.partition_point-line.result c.partition_point-line.ensures.partitioned
    (IsPartitionedBy-leb (λ x. x) xs c.args.offset table.rising) (λ a r f k. search (rules, of_calls)))
