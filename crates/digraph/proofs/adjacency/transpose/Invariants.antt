use Rattle.std.proofs.Common.{◌≡◌, map, take}
use Rattle.digraph.specs.Edges.{transpose}
use Rattle.digraph.proofs.adjacency.transpose.Given as goal

abbrev pub invariant-loop-edge : goal.invariant-loop-edge
invariant-loop-edge l = l.others.items ≡ map transpose (take l.edge-index l.edges)
