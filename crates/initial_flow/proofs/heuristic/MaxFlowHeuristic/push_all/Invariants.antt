use Rattle.initial_flow.specs.Heuristics.{DiffersOnlyInFlow}
use Rattle.initial_flow.proofs.heuristic.MaxFlowHeuristic.push_all.Given as goal

abbrev pub invariant-loop : goal.invariant-loop
invariant-loop l = DiffersOnlyInFlow l.initial.self l.self
