use Rattle.digraph.specs.Marks.{IsPruning, work_left}
use Rattle.digraph.proofs.core_nodes.CycleCore.prune.Given as goal

abbrev pub invariant-loop-node : goal.invariant-loop-node
invariant-loop-node l = IsPruning l.edges l.nodes l.self.marks.items l.self.places.items l.again.items

abbrev pub decreases-loop-node : goal.decreases-loop-node
decreases-loop-node l = work_left l.edges l.self.marks.items l.again.items
