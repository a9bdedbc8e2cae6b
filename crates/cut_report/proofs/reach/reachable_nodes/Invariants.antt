use Rattle.cut_report.proofs.Reached.{AreThoseBelow, IsOther}
use Rattle.cut_report.proofs.reach.reachable_nodes.Given as goal

abbrev pub invariant-loop-node : goal.invariant-loop-node
invariant-loop-node l = AreThoseBelow (IsOther l.edges l.start) l.node l.reached.items
