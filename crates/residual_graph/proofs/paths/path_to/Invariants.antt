use Rattle.std.proofs.Common.{ℕ, ◌<◌, length}
use Rattle.residual_graph.specs.Graphs.{Graph}
use Rattle.residual_graph.specs.Searches.{IsSearchOf}
use Rattle.residual_graph.proofs.Walking.{Walking}
use Rattle.residual_graph.proofs.paths.path_to.Given as goal

abbrev pub invariant-loop-at : goal.invariant-loop-at
invariant-loop-at l = record {
  within : 0 < l.at → l.at < length l.found.visits.items;
  walking : (g : Graph) (start : ℕ) → IsSearchOf g start l.found → Walking g l.found.visits.items l.initial.at l.at l.path.items;
}

abbrev pub decreases-loop-at : goal.decreases-loop-at
decreases-loop-at l = l.at
