use Rattle.std.proofs.Common.{ℕ, Bool, List}
use Rattle.digraph.specs.declared.edge.Edge.{Edge}
use Rattle.digraph.specs.Search.{IsSearch}
use Rattle.digraph.proofs.GoingUp.{steps_left, GoesUp}
use Rattle.digraph.proofs.search.Search.path_to.Given as goal

abbrev pub invariant-nodes : goal.invariant-nodes
invariant-nodes l = (edges : List Edge) (starts : List ℕ) (barrier : List Bool) → IsSearch edges starts barrier l.self → GoesUp edges starts barrier l.self l.node l.path.items l.next

abbrev pub decreases-nodes : goal.decreases-nodes
decreases-nodes l = steps_left l.self.parents.items l.path.items l.next
