use Rattle.std.proofs.Common.{◌≡◌, ◌≤◌, ◌+◌, ◌++◌, ℕ, List, length}
use Rattle.digraph.specs.Incoming.{AreDependentsFrom}
use Rattle.digraph.specs.Marks.{edge_at}
use Rattle.digraph.proofs.incoming.append_dependents.Given as goal

abbrev pub invariant-loop-next : goal.invariant-loop-next
invariant-loop-next l = record {
  within : l.next ≤ length l.edges;
  own : (k : ℕ) → l.next ≡ k + 1 → (edge_at l.edges k).to ≡ l.node;
  waiting : (row : List ℕ) × AreDependentsFrom l.edges l.places l.node row l.next × (l.again.items ≡ l.fn.again.items ++ row);
}

abbrev pub decreases-loop-next : goal.decreases-loop-next
decreases-loop-next l = l.next
