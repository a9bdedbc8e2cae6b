-- The source files of a tree.
use Rattle.std.specs.Prelude.{ℕ, List, map}
use Rattle.std.specs.Cmp.Lexicographic.{slice_cmp}
use Rattle.std.specs.List.Sorted.{IsStrictlySortedBy}
use Rattle.std.specs.Ordering.{nat_cmp}
use Rattle.std.specs.String.{string_bytes}
use Rattle.source_tree.specs.declared.source.Source.{Source}

-- the path of each file
abbrev pub paths_of : List Source → List (List ℕ)
paths_of sources = map (λ s. string_bytes s.path) sources

-- the paths are strictly sorted by their bytes
abbrev pub ArePathsInOrder : List Source → Type 0
ArePathsInOrder sources = IsStrictlySortedBy (slice_cmp nat_cmp) (paths_of sources)
