use Rattle.std.proofs.Common.{◌≡◌, map, take}
use Rattle.digraph.specs.Ranks.{by_ranks}
use Rattle.digraph.proofs.ranks.renumber_edges.Given as goal

abbrev pub invariant-loop-edge : goal.invariant-loop-edge
invariant-loop-edge l = l.others.items ≡ map (by_ranks l.ranks) (take l.edge-index l.edges)
