use Rattle.cut_check.proofs.ChainPaths.{AreArcsTo}
use Rattle.cut_check.proofs.arcs.arcs_of.Given as goal

abbrev pub invariant-loop-k : goal.invariant-loop-k
invariant-loop-k l = AreArcsTo l.imports l.allowed l.k l.arcs.items
