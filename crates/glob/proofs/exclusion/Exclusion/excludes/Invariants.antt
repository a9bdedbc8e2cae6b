use Rattle.std.proofs.Common.{take}
use Rattle.glob.specs.Exclusions.{names_of, IsExcludedBy}
use Rattle.glob.proofs.exclusion.Exclusion.excludes.Given as goal

-- none of the patterns so far excludes the path
abbrev pub invariant-loop-glob : goal.invariant-loop-glob
invariant-loop-glob l = IsExcludedBy (take l.glob-index l.glob-items) (names_of l.path) → ⊥
