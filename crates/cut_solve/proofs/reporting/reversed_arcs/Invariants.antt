use Rattle.std.proofs.Common.{◌≡◌, take, map}
use Rattle.cut_solve.specs.Lines.{reversed_arc_of}
use Rattle.cut_solve.proofs.reporting.reversed_arcs.Given as goal

abbrev pub invariant-loop-i : goal.invariant-loop-i
invariant-loop-i l = l.arcs.items ≡ map (reversed_arc_of l.source_side) (take l.i-index l.imports)
