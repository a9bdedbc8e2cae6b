-- Graphs of modules: what each imports, by numbers, and paths of imports.
use Rattle.std.specs.Prelude.{◌≡◌, ℕ, ◌<◌, ◌≤◌, ◌==◌, List, [], ◌∷◌, length, map, slice_index_or, count_by, All, Contains, IsPermutation, Vec}
use Rattle.std.specs.Cmp.Lexicographic.{slice_cmp}
use Rattle.std.specs.List.{range_with_len}
use Rattle.std.specs.List.Sorted.{IsSortedBy}
use Rattle.std.specs.Ordering.{is_lt, nat_cmp}
use Rattle.std.specs.declared.alloc.Global.{Global}

-- the names of the modules by number, and what each imports
pub record Modules : Type 0 where
  pub names : List (List ℕ)
  pub imports : List (List ℕ)

-- the lists of a vector of vectors
abbrev pub lists : {X : Type 0} → List (Vec X Global) → List (List X)
lists rows = map (λ r. r.items) rows

abbrev pub list_at : {X : Type 0} → List (List X) → ℕ → List X
list_at rows n = slice_index_or rows n []

-- how often n occurs in the list
abbrev pub occurrences_in : ℕ → List ℕ → ℕ
occurrences_in n row = count_by (λ x. x == n) row

-- there are as many lists of imports as names, at most 4,096; each list has at most 65,536 imports, and each import is the number of a
-- module
pub record IsGraph (g : Modules) : Type 0 where
  pub size : length g.imports ≡ length g.names
  pub few : length g.names ≤ 4096
  pub short : (m : ℕ) → length (list_at g.imports m) ≤ 65536
  pub within : (m : ℕ) → All (λ w. w < length g.names) (list_at g.imports m)

-- the numbers of all names, each once, sorted by name
pub record IsNameOrder (names : List (List ℕ)) (order : List ℕ) : Type 0 where
  pub all : IsPermutation (range_with_len 0 (length names)) order
  pub ascend : IsSortedBy (λ v w. is_lt (slice_cmp nat_cmp (list_at names v) (list_at names w))) order

-- each list has at most 65,536 numbers, all less than the count
abbrev pub AreImportLists : List (List ℕ) → ℕ → Type 0
AreImportLists rows count = (m : ℕ) → (length (list_at rows m) ≤ 65536) × All (λ w. w < count) (list_at rows m)

-- `importers` is the reversed graph: m occurs in the importers of n as often as n in the imports of m
abbrev pub AreTransposed : List (List ℕ) → List (List ℕ) → Type 0
AreTransposed imports importers = (m n : ℕ) → occurrences_in m (list_at importers n) ≡ occurrences_in n (list_at imports m)

-- m imports n
abbrev pub ImportsModule : List (List ℕ) → ℕ → ℕ → Type 0
ImportsModule imports m n = Contains (list_at imports m) n

-- a path from m to b, over the modules of the list: m imports the first of them, each the next, and the last imports b
abbrev pub IsChain : List (List ℕ) → ℕ → List ℕ → ℕ → Type 0
IsChain imports m [] b = ImportsModule imports m b
IsChain imports m (n ∷ more) b = ImportsModule imports m n × IsChain imports n more b

-- m reaches b by one or more imports
abbrev pub Reaches : List (List ℕ) → ℕ → ℕ → Type 0
Reaches imports m b = (more : List ℕ) × IsChain imports m more b

-- no module reaches itself
abbrev pub IsAcyclic : List (List ℕ) → Type 0
IsAcyclic imports = (m : ℕ) → Reaches imports m m → ⊥
