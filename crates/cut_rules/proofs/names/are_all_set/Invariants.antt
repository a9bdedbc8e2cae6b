use Rattle.std.proofs.Common.{◌≡◌, ◌<◌, ℕ, true}
use Rattle.digraph.specs.Marks.{marked}
use Rattle.cut_rules.proofs.names.are_all_set.Given as goal

abbrev pub invariant-loop-place : goal.invariant-loop-place
invariant-loop-place l = (k : ℕ) → k < l.place → marked l.flags k ≡ true
