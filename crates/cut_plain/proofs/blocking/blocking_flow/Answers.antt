use Rattle.std.proofs.Common.{◌∙◌}
use Rattle.cut_plain.proofs.Descending.{raises_more}
use Rattle.cut_plain.proofs.blocking.blocking_flow.Goals as goal

pub returns-then-not-moved-clause-rises : goal.returns-then-not-moved-clause-rises
returns-then-not-moved-clause-rises c =
    raises_more c.args.graph.now.arcs c.loop.graph.arcs c.advance_descent.new.graph.arcs c.args.from c.args.to c.loop.invariant.rises c.in_ok-moved.ensures.rises

pub loop-preserved : goal.loop-preserved
loop-preserved c = record {
  nodes = c.in_ok-moved.ensures.nodes ∙ c.loop.invariant.nodes;
  same = c.in_ok-moved.ensures.same ∙ c.loop.invariant.same;
  rises = raises_more c.args.graph.now.arcs c.loop.graph.arcs c.advance_descent.new.graph.arcs c.args.from c.args.to c.loop.invariant.rises c.in_ok-moved.ensures.rises;
  descent = c.in_ok-moved.ensures.descent;
}
