use Rattle.initial_flow.specs.Heuristics.{DiffersOnlyInFlow}
use Rattle.initial_flow.proofs.heuristic.MaxFlowHeuristic.return_excess.Given as goal

abbrev pub invariant-loop-place : goal.invariant-loop-place
invariant-loop-place l = DiffersOnlyInFlow l.initial.self l.self
