use Rattle.std.proofs.Common.{◌≡◌, ◌++◌, ℕ, List, take}
use Rattle.std.specs.Prelude.{unwrap_or}
use Rattle.digraph.specs.Search.{AreDiscovered}
use Rattle.digraph.proofs.search.discover_nodes.Given as goal

abbrev pub invariant-loop-node : goal.invariant-loop-node
invariant-loop-node l = (found : List ℕ) × (l.queue.items ≡ l.initial.queue.items ++ found) ×
    AreDiscovered (take l.node-index l.nodes) l.barrier (λ v. unwrap_or l.parent v) l.initial.parents.items l.parents.items found
