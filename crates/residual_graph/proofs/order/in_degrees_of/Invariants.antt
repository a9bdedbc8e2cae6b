use Rattle.std.proofs.Common.{◌≡◌, vec_len}
use Rattle.residual_graph.proofs.order.in_degrees_of.Given as goal

abbrev pub invariant-loop-arc : goal.invariant-loop-arc
invariant-loop-arc l = vec_len l.counts ≡ l.nodes
