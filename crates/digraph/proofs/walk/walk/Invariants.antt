use Rattle.std.proofs.Common.{◌≡◌, ◌-◌, length, vec_len}
use Rattle.digraph.specs.Marks.{marked}
use Rattle.digraph.specs.Edges.{Leads}
use Rattle.digraph.proofs.Walks.{Walking}
use Rattle.digraph.proofs.walk.walk.Given as goal

abbrev pub invariant-steps : goal.invariant-steps
invariant-steps l = record {
  size : length l.place_of_node.items ≡ length l.core_nodes.marks.items;
  walking : Walking (Leads l.edges) (marked l.core_nodes.marks.items) l.walk.items l.place_of_node.items l.at;
}

abbrev pub decreases-steps : goal.decreases-steps
decreases-steps l = length l.core_nodes.marks.items - vec_len l.walk
