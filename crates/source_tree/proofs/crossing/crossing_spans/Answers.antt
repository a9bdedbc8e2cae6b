use Rattle.source_tree.proofs.CrossedTrees.{spans_next}
use Rattle.source_tree.proofs.crossing.crossing_spans.Goals as goal

pub loop-crossing-preserved : goal.loop-crossing-preserved
loop-crossing-preserved c =
    rw c.in_ok-push.ensures.items
    (spans_next c.args.bytes.now c.args.tokens.now c.args.crossings.now c.loop-crossing.crossing-index _ c.loop-crossing.spans.items _ c.loop-crossing-test.true c.loop-crossing.invariant
    c.crossing_span.ensures)
