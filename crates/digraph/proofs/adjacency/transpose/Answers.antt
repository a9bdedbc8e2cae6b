use Rattle.std.proofs.Common.{map, sym, ap, ◌∙◌, take_all}
use Rattle.std.proofs.lemmas.List.{map_more}
use Rattle.digraph.specs.Edges.{transpose}
use Rattle.digraph.specs.Marks.{missing_item}
use Rattle.digraph.proofs.adjacency.transpose.Goals as goal

pub loop-edge-preserved : goal.loop-edge-preserved
loop-edge-preserved c = rw (c.in_ok-push.ensures.items, c.loop-edge.invariant) (sym (map_more transpose c.args.edges.now c.loop-edge.edge-index missing_item c.loop-edge-test.true))

pub returns : goal.returns
returns c = c.loop-edge.invariant ∙ ap (map transpose) (take_all c.loop-edge.edge-index c.args.edges.now c.loop-edge-test.false)
