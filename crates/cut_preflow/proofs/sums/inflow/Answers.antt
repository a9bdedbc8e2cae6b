use Rattle.std.proofs.Common.{◌==◌, if◌then◌else◌, slice_index, length, arith}
use Rattle.cut_preflow.specs.FlowGraphs.{flows_of, imports_of}
use Rattle.cut_preflow.specs.Preflow.{import_in}
use Rattle.cut_preflow.proofs.Choices.{choice_le}
use Rattle.cut_preflow.proofs.Graphs.{flow_is}
use Rattle.cut_preflow.proofs.Totals.{part_le-total}
use Rattle.cut_preflow.proofs.sums.inflow.Goals as goal

pub overflow_add-sum : goal.overflow_add-sum
overflow_add-sum c =
    let arcs = c.args.arcs.now in
    let part = part_le-total (length arcs) (λ i. if (import_in (imports_of arcs) i).to == c.args.node then slice_index (flows_of arcs) i else 0) (λ i. slice_index (flows_of arcs) i) c.loop-arc.arc-index c.loop-arc-test.true (λ i. choice_le ((import_in (imports_of arcs) i).to == c.args.node) (slice_index (flows_of arcs) i)) in
    omega (arith, part, c.loop-arc.invariant, c.requires, flow_is arcs c.loop-arc.arc-index)
