use Rattle.residual_graph.specs.Spreading.{AreArcLists}
use Rattle.residual_graph.proofs.spread.link_by_tail.Given as goal

abbrev pub invariant-loop-number : goal.invariant-loop-number
invariant-loop-number l = AreArcLists l.arcs l.nodes l.last.items l.before.items l.number
