use Rattle.std.proofs.Common.{◌-◌, ◌≤◌, length}
use Rattle.digraph.proofs.Searching.{IsSearching}
use Rattle.digraph.proofs.graph.Graph.search_from.Given as goal

abbrev pub invariant-nodes : goal.invariant-nodes
invariant-nodes l = record {
  within : l.next ≤ length l.queue.items;
  searching : IsSearching l.self.edges.now l.starts l.barrier (length l.self.after.items) l.parents.items l.queue.items l.next;
}

abbrev pub decreases-nodes : goal.decreases-nodes
decreases-nodes l = length l.self.after.items - l.next
