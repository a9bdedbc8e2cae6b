use Rattle.std.proofs.Common.{map, take}
use Rattle.glob.specs.Exclusions.{AreGlobs}
use Rattle.glob.proofs.exclusion.parse_globs.Given as goal

abbrev pub invariant-loop-pattern : goal.invariant-loop-pattern
invariant-loop-pattern l = AreGlobs (map (λ p. p.now) (take l.pattern-index l.patterns)) l.globs.items
