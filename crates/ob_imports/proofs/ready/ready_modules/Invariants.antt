use Rattle.ob_imports.specs.Graphs.{CanStart}
use Rattle.digraph.specs.Marks.{lists}
use Rattle.ob_imports.proofs.Lists.{IsListBelow}
use Rattle.ob_imports.proofs.ready.ready_modules.Given as goal

abbrev pub invariant-loop-node : goal.invariant-loop-node
invariant-loop-node l = IsListBelow (CanStart (lists l.imports) l.done) l.ready.items l.node
