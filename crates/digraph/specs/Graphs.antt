-- A graph with the successors of each node.
use Rattle.std.specs.Prelude.{◌≡◌, ℕ, ◌≤◌, length}
use Rattle.digraph.specs.declared.graph.Graph.{Graph}
use Rattle.digraph.specs.Edges.{successors, AreBetween, IsAscending}
use Rattle.digraph.specs.Marks.{lists, list_at}

-- the edges are strictly sorted and lead between the nodes, and each list has the successors of its node, in the order of the edges
pub record IsGraph (graph : Graph) : Type 0 where
  pub between : AreBetween graph.edges.now (length graph.after.items)
  pub ascending : IsAscending graph.edges.now
  pub few_nodes : length graph.after.items ≤ 8192
  pub after : (v : ℕ) → list_at (lists graph.after.items) v ≡ successors graph.edges.now v
