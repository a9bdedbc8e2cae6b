use Rattle.std.proofs.Common.{map, drop}
use Rattle.std.specs.Prelude.{◌↔◌}
use Rattle.glob.specs.Exclusions.{FitEach}
use Rattle.glob.proofs.exclusion.matches_first_names.Given as goal

-- what is left of the names is matched by what is left of the patterns
abbrev pub invariant-loop-place : goal.invariant-loop-place
invariant-loop-place l = FitEach l.globs (map (λ n. n.now) l.names) ↔ FitEach (drop l.place l.globs) (map (λ n. n.now) (drop l.place l.names))
