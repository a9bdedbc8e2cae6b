use Rattle.std.proofs.Common.{◌≡◌, ◌<◌, ◌≤◌, ◌⊎◌, ℕ, true}
use Rattle.std.specs.Prelude.{◌↔◌}
use Rattle.digraph.specs.Marks.{marked}
use Rattle.cut_rules.proofs.table.flag_range.Given as goal

abbrev pub invariant-loop-place : goal.invariant-loop-place
invariant-loop-place l = record {
  flags : (k : ℕ) → (marked l.flags k ≡ true) ↔ ((marked l.initial.flags k ≡ true) ⊎ ((l.fn.from ≤ k) × (k < l.place)));
  within : (l.place ≤ l.fn.to) ⊎ (l.place ≡ l.fn.from);
}
