use Rattle.std.proofs.Common.{◌+◌, ◌∙◌}
use Rattle.cut_plain.proofs.Measure.{measure_falls}
use Rattle.cut_plain.proofs.maximum_flow.maximum_flow.Goals as goal

pub loop-alloc-smaller : goal.loop-alloc-smaller
loop-alloc-smaller c =
    measure_falls c.loop-alloc.graph.arcs c.raise_flow.new.graph.arcs c.args.from c.args.to c.loop-alloc.invariant.balanced.0 c.in_ok-raise_flow.ensures.same c.invariants.ensures.within
    c.loop-alloc.invariant.balanced.1 c.in_ok-raise_flow.ensures.raises

pub loop-alloc-preserved : goal.loop-alloc-preserved
loop-alloc-preserved c =
    let raised = c.in_ok-raise_flow.ensures.raises in
    record {
      nodes = c.in_ok-raise_flow.ensures.nodes ∙ c.loop-alloc.invariant.nodes;
      same = c.in_ok-raise_flow.ensures.same ∙ c.loop-alloc.invariant.same;
      balanced = (c.loop-alloc.invariant.balanced.0 + raised.0, raised.2 c.loop-alloc.invariant.balanced.0 c.loop-alloc.invariant.balanced.1);
      levels = c.in_ok-found-2.ensures.levels;
      tree = c.in_ok-found-2.ensures.tree;
      reached = c.in_ok-found-2.ensures.reached;
      shut = c.in_ok-found-2.ensures.closed;
    }

pub loop-alloc-init : goal.loop-alloc-init
loop-alloc-init c =
    let rises = c.in_ok-blocking_flow.ensures.rises in
    record {
      nodes = c.in_ok-blocking_flow.ensures.nodes;
      same = c.in_ok-blocking_flow.ensures.same;
      balanced = (0 + rises.0, rises.1 0 c.requires.balanced);
      levels = c.in_ok-found.ensures.levels;
      tree = c.in_ok-found.ensures.tree;
      reached = c.in_ok-found.ensures.reached;
      shut = c.in_ok-found.ensures.closed;
    }
