use Rattle.std.proofs.Common.{◌≡◌, take}
use Rattle.cut_preflow.specs.Trace.{state_of}
use Rattle.cut_solve.specs.Settling.{arcs_with_flow}
use Rattle.cut_solve.proofs.settling.arcs_with_flow.Given as goal

abbrev pub invariant-loop-number : goal.invariant-loop-number
invariant-loop-number g l = l.arcs.items ≡ take l.number (arcs_with_flow l.imports (state_of l.preflow.trace).flow)
