use Rattle.std.proofs.Common.{◌≡◌, vec_len}
use Rattle.initial_flow.proofs.heuristic.MaxFlowHeuristic.fill_buckets.Given as goal

abbrev pub invariant-loop-place : goal.invariant-loop-place
invariant-loop-place l = vec_len l.buckets.nexts ≡ vec_len l.initial.buckets.nexts
