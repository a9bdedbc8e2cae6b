-- Exclusion of files and folders by patterns. A path is a list of bytes, and slashes separate its names.
use Rattle.std.specs.Prelude.{◌≡◌, ◌↔◌, ◌⊎◌, ℕ, ◌==◌, List, [], ◌∷◌, ◌++◌, map, Contains}
use Rattle.std.specs.List.{slice_split}
use Rattle.glob.specs.Globs.{Fits, Matches}
use Rattle.glob.specs.declared.pattern.Glob.{Glob}
use Rattle.glob.specs.declared.exclusion.PathGlob.{PathGlob}
use Rattle.glob.specs.declared.exclusion.PathGlob.TheVariants.{Name, Path}

-- the names of a path
abbrev pub names_of : List ℕ → List (List ℕ)
names_of path = slice_split (λ c. c == 47) path

-- there are as many names as patterns, and each name matches the pattern at its index
abbrev pub MatchEach : List (List ℕ) → List (List ℕ) → Type 0
MatchEach [] [] = Unit {0}
MatchEach [] (name ∷ names) = ⊥
MatchEach (pattern ∷ patterns) [] = ⊥
MatchEach (pattern ∷ patterns) (name ∷ names) = Matches pattern name × MatchEach patterns names

-- the pattern has a slash
abbrev pub HasSlash : List ℕ → Type 0
HasSlash pattern = Contains pattern 47

-- the last of the names matches the pattern
abbrev pub MatchesLast : List ℕ → List (List ℕ) → Type 0
MatchesLast pattern names = (before : List (List ℕ)) × (name : List ℕ) × (names ≡ before ++ name ∷ []) × Matches pattern name

-- the pattern matches the file or folder whose path has these names. If it has a slash, it is matched name by name, so that `*` matches no
-- slash; otherwise it is matched with the last name
abbrev pub MatchesPath : List ℕ → List (List ℕ) → Type 0
MatchesPath pattern names = (HasSlash pattern × MatchEach (names_of pattern) names) ⊎ ((HasSlash pattern → ⊥) × MatchesLast pattern names)

-- the pattern matches the path or a folder on it
abbrev pub Excludes : List ℕ → List ℕ → Type 0
Excludes pattern path = (names rest : List (List ℕ)) × (names_of path ≡ names ++ rest) × MatchesPath pattern names

-- one of the patterns excludes the path
abbrev pub IsExcluded : List (List ℕ) → List ℕ → Type 0
IsExcluded patterns path = (pattern : List ℕ) × Contains patterns pattern × Excludes pattern path

-- ---- parsed patterns

-- each parsed pattern fits exactly the names that match its source
abbrev pub AreGlobs : List (List ℕ) → List Glob → Type 0
AreGlobs [] [] = Unit {0}
AreGlobs [] (glob ∷ globs) = ⊥
AreGlobs (pattern ∷ patterns) [] = ⊥
AreGlobs (pattern ∷ patterns) (glob ∷ globs) = ((name : List ℕ) → Matches pattern name ↔ Fits glob name) × AreGlobs patterns globs

-- there are at least as many names as patterns, and the name at each pattern's index fits it
abbrev pub FitEach : List Glob → List (List ℕ) → Type 0
FitEach [] names = Unit {0}
FitEach (glob ∷ globs) [] = ⊥
FitEach (glob ∷ globs) (name ∷ names) = Fits glob name × FitEach globs names

-- the parsed pattern excludes a path of these names
abbrev pub ExcludesBy : PathGlob → List (List ℕ) → Type 0
ExcludesBy (Name glob) names = (name : List ℕ) × Contains names name × Fits glob name
ExcludesBy (Path globs) names = FitEach globs.items names

-- one of the parsed patterns excludes a path of these names
abbrev pub IsExcludedBy : List PathGlob → List (List ℕ) → Type 0
IsExcludedBy globs names = (glob : PathGlob) × Contains globs glob × ExcludesBy glob names

-- the parsed patterns exclude exactly the paths that their sources exclude
abbrev pub AreRead : List (List ℕ) → List PathGlob → Type 0
AreRead patterns globs = (path : List ℕ) → IsExcluded patterns path ↔ IsExcludedBy globs (names_of path)
