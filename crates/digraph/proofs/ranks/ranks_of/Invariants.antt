use Rattle.std.proofs.Common.{ℕ, ◌<◌, ◌≡◌, length}
use Rattle.std.specs.Prelude.{slice_index}
use Rattle.digraph.proofs.ranks.ranks_of.Given as goal

abbrev pub invariant-loop-place : goal.invariant-loop-place
invariant-loop-place l = record {
  size : length l.ranks.items ≡ length l.order;
  placed : (k : ℕ) → k < l.place → (slice_index l.ranks.items (slice_index l.order k) < length l.order) × (slice_index l.order (slice_index l.ranks.items (slice_index l.order k)) ≡ slice_index l.order k);
}
