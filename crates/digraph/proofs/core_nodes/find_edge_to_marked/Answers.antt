-- After an edge of another node there is no further edge of the node.
use Rattle.digraph.proofs.Settling.{passed_beyond}
use Rattle.digraph.proofs.core_nodes.find_edge_to_marked.Goals as goal

pub returns-then-edges-place-clause-none : goal.returns-then-edges-place-clause-none
returns-then-edges-place-clause-none c =
    passed_beyond c.args.edges.now c.args.marks.now c.args.node c.args.start c.loop-place.place c.requires.ascending c.requires.start c.loop-place.auto.place c.loop-place-test.true
    c.if-edges-place.true c.loop-place.invariant
