use Rattle.std.proofs.Common.{◌≡◌, [], ◌-◌, vec_len}
use Rattle.residual_graph.specs.Trees.{Searching}
use Rattle.residual_graph.proofs.searches.search.Given as goal

abbrev pub invariant-loop-place : goal.invariant-loop-place
invariant-loop-place l = record {
  seen_size : vec_len l.reached_flags ≡ l.graph.nodes;
  levels_size : vec_len l.levels ≡ l.graph.nodes;
  search : Searching l.graph l.start l.reached_flags.items l.visits.items l.place [] 0;
}

abbrev pub decreases-loop-place : goal.decreases-loop-place
decreases-loop-place l = l.graph.nodes - l.place
