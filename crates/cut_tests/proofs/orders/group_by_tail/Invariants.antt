use Rattle.std.proofs.Common.{◌<◌, ◌≤◌}
use Rattle.std.specs.Prelude.{All}
use Rattle.cut_tests.proofs.orders.group_by_tail.Given as goal

abbrev pub invariant-loop-node : goal.invariant-loop-node
invariant-loop-node l = record {
  imports : All (λ i. (i.from < l.nodes) × (i.to < l.nodes)) l.grouped.imports.items;
  within : All (λ r. r.flow ≤ r.capacity) l.grouped.arcs.items;
  between : All (λ r. (r.from < l.nodes) × (r.to < l.nodes)) l.grouped.arcs.items;
}
