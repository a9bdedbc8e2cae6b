use Rattle.initial_flow.specs.Heuristics.{DiffersOnlyInFlow}
use Rattle.initial_flow.proofs.heuristic.MaxFlowHeuristic.return_all_excess.Given as goal

abbrev pub invariant-loop-back : goal.invariant-loop-back
invariant-loop-back l = DiffersOnlyInFlow l.initial.self l.self
