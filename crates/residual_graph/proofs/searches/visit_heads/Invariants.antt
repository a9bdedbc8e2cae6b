use Rattle.std.proofs.Common.{ℕ, [], ◌≡◌, ◌≤◌, map, vec_len}
use Rattle.residual_graph.specs.OutArcs.{step_of}
use Rattle.residual_graph.specs.Trees.{Searching, visit_at}
use Rattle.residual_graph.proofs.searches.visit_heads.Given as goal

abbrev pub invariant-loop-out : goal.invariant-loop-out
invariant-loop-out l = record {
  seen_size : vec_len l.reached_flags ≡ l.graph.nodes;
  levels_size : vec_len l.levels ≡ l.graph.nodes;
  longer : vec_len l.fn.visits ≤ vec_len l.visits;
  same_place : visit_at l.visits.items l.place ≡ visit_at l.fn.visits.items l.place;
  search : (start : ℕ) → Searching l.graph start l.fn.reached_flags.items l.fn.visits.items l.place [] 0 →
      Searching l.graph start l.reached_flags.items l.visits.items l.place (map step_of l.out-items) l.out-index;
}
