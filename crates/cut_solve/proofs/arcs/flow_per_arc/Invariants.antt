use Rattle.std.proofs.Common.{◌≡◌, map, take}
use Rattle.cut_solve.specs.Lines.{flow_line}
use Rattle.cut_solve.proofs.arcs.flow_per_arc.Given as goal

abbrev pub invariant-loop-arc : goal.invariant-loop-arc
invariant-loop-arc l = l.imports.items ≡ map flow_line (take l.arc-index l.arcs)
