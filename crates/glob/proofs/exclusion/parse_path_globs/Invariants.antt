use Rattle.std.proofs.Common.{map, take}
use Rattle.std.specs.String.{string_bytes}
use Rattle.glob.specs.Exclusions.{AreRead}
use Rattle.glob.proofs.exclusion.parse_path_globs.Given as goal

abbrev pub invariant-loop-pattern : goal.invariant-loop-pattern
invariant-loop-pattern l = AreRead (map string_bytes (take l.pattern-index l.patterns)) l.globs.items
