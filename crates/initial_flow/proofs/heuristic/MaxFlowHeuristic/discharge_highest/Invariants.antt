use Rattle.std.proofs.Common.{◌≡◌, vec_len}
use Rattle.initial_flow.specs.Heuristics.{DiffersOnlyInFlow}
use Rattle.initial_flow.proofs.heuristic.MaxFlowHeuristic.discharge_highest.Given as goal

abbrev pub invariant-loop : goal.invariant-loop
invariant-loop l = record {
  flow : DiffersOnlyInFlow l.initial.self l.self;
  known : vec_len l.buckets.nexts ≡ l.self.nodes;
}
