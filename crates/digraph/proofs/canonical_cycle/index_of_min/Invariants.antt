use Rattle.std.proofs.Common.{ℕ, ◌<◌, ◌≤◌, length}
use Rattle.std.specs.Prelude.{slice_index}
use Rattle.digraph.proofs.canonical_cycle.index_of_min.Given as goal

abbrev pub invariant-loop-place : goal.invariant-loop-place
invariant-loop-place l = record {
  within : l.least < length l.numbers;
  below : (k : ℕ) → k < l.place → slice_index l.numbers l.least ≤ slice_index l.numbers k;
}
