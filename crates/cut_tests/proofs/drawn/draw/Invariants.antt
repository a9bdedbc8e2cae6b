use Rattle.std.proofs.Common.{◌<◌, ◌≤◌}
use Rattle.std.specs.Prelude.{All}
use Rattle.cut_tests.proofs.drawn.draw.Given as goal

abbrev pub invariant-loop : goal.invariant-loop
invariant-loop l = record {
  within : All (λ r. r.flow ≤ r.capacity) l.arcs.items;
  between : All (λ r. (r.from < l.nodes) × (r.to < l.nodes)) l.arcs.items;
}
