use Rattle.std.proofs.Common.{ℕ, List, map, take}
use Rattle.std.specs.Prelude.{Contains}
use Rattle.glob.specs.Globs.{Fits}
use Rattle.glob.proofs.exclusion.matches_any_name.Given as goal

-- none of the names so far fits
abbrev pub invariant-loop-name : goal.invariant-loop-name
invariant-loop-name l = (name : List ℕ) → Contains (map (λ n. n.now) (take l.name-index l.names)) name → Fits l.glob name → ⊥
