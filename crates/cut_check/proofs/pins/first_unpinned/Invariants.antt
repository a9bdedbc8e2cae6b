use Rattle.std.proofs.Common.{ℕ, ◌+◌, ◌<◌}
use Rattle.cut_check.specs.Verdicts.{IsPinnedAt}
use Rattle.cut_check.proofs.pins.first_unpinned.Given as goal

abbrev pub invariant-loop-k : goal.invariant-loop-k
invariant-loop-k l = record {
  from_one : 0 < l.k;
  pinned : (j : ℕ) → j + 1 < l.k → IsPinnedAt l.net l.chain j;
}
