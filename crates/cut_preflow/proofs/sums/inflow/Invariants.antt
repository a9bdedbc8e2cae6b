use Rattle.std.proofs.Common.{◌≡◌, ◌==◌, if◌then◌else◌, slice_index}
use Rattle.cut_preflow.specs.FlowGraphs.{flows_of, imports_of}
use Rattle.cut_preflow.specs.Total.{total}
use Rattle.cut_preflow.specs.Preflow.{import_in}
use Rattle.cut_preflow.proofs.sums.inflow.Given as goal

abbrev pub invariant-loop-arc : goal.invariant-loop-arc
invariant-loop-arc l = l.sum ≡ total l.arc-index (λ i. if (import_in (imports_of l.arcs) i).to == l.node then slice_index (flows_of l.arcs) i else 0)
