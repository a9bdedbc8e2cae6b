use Rattle.std.proofs.Common.{◌≡◌, take, map}
use Rattle.std.specs.Prelude.{filter}
use Rattle.cut_solve.specs.Lines.{has_flow, flow_line}
use Rattle.cut_solve.proofs.arcs.nonzero_flow.Given as goal

abbrev pub invariant-loop-arc : goal.invariant-loop-arc
invariant-loop-arc l = l.flow.items ≡ filter has_flow (map flow_line (take l.arc-index l.arcs))
