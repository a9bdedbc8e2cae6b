use Rattle.std.proofs.Common.{arith}
use Rattle.residual_graph.specs.Graphs.{no_arc}
use Rattle.residual_graph.proofs.order.in_degrees_of.Goals as goal

pub index-count-requires : goal.index-count-requires
index-count-requires c =
    let ends = c.requires c.loop-arc.arc-index no_arc c.loop-arc-test.true in
    let to_in = ends.1 in
    let size = c.loop-arc.invariant in
    let ok = c.loop-arc.counts.ok.0 in
    omega arith
