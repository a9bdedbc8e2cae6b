use Rattle.digraph.specs.Marks.{ArePassed}
use Rattle.digraph.proofs.core_nodes.find_edge_to_marked.Given as goal

abbrev pub invariant-loop-place : goal.invariant-loop-place
invariant-loop-place l = ArePassed l.edges l.marks l.node l.start l.place
