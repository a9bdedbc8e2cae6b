-- Files that no pattern excludes.
use Rattle.std.specs.Prelude.{ℕ, List, All, map}
use Rattle.std.specs.String.{string_bytes}
use Rattle.glob.specs.Exclusions.{IsExcluded}
use Rattle.source_tree.specs.declared.source.Source.{Source}

-- no pattern excludes any of the paths
abbrev pub AreIncludedPaths : List (List ℕ) → List (List ℕ) → Type 0
AreIncludedPaths patterns paths = All (λ path. IsExcluded patterns path → ⊥) paths

-- no pattern excludes the path of any of the files
abbrev pub AreIncluded : List (List ℕ) → List Source → Type 0
AreIncluded patterns sources = AreIncludedPaths patterns (map (λ (source : Source). string_bytes source.path) sources)
