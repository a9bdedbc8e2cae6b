use Rattle.std.proofs.Common.{◌≡◌, take, map}
use Rattle.cut_solve.specs.Lines.{arc_without_flow}
use Rattle.cut_solve.proofs.arcs.arcs_of.Given as goal

abbrev pub invariant-loop-i : goal.invariant-loop-i
invariant-loop-i l = l.arcs.items ≡ map arc_without_flow (take l.i-index l.imports)
