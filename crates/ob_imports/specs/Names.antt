-- Names as byte lists, and indices of names.
use Rattle.std.specs.Prelude.{◌≡◌, ℕ, ◌+◌, ◌<◌, length, List, [], Option, Some, map, slice_get, String, All, IsPermutation}
use Rattle.std.specs.List.{position, slice_index_or}
use Rattle.std.specs.List.Sorted.{IsSorted, IsStrictlySortedBy}
use Rattle.std.specs.Ordering.{nat_cmp}
use Rattle.std.specs.Cmp.Lexicographic.{slice_cmp}
use Rattle.std.specs.Str.{bytes_eq}
use Rattle.std.specs.String.{string_bytes}

-- the bytes of each string
abbrev pub texts : {Z : Type 0} → List (String Z) → List (List ℕ)
texts names = map string_bytes names

-- the names are strictly sorted by their bytes
abbrev pub AreAscending : List (List ℕ) → Type 0
AreAscending names = IsStrictlySortedBy (slice_cmp nat_cmp) names

-- the names are sorted by their bytes, with repeats allowed
abbrev pub AreNamesSorted : List (List ℕ) → Type 0
AreNamesSorted names = IsSorted (slice_cmp nat_cmp) names

-- the name at index k repeats at the next index
abbrev pub IsRepeat : List (List ℕ) → ℕ → Type 0
IsRepeat names k = slice_index_or names k [] ≡ slice_index_or names (k + 1) []

-- k is the first index whose name repeats at the next index
pub record IsFirstRepeat (names : List (List ℕ)) (k : ℕ) : Type 0 where
  pub within : k + 1 < length names
  pub alike : IsRepeat names k
  pub first : (j : ℕ) → j < k → IsRepeat names j → ⊥

-- the index of a name; none if the list lacks it
abbrev pub index_in : List (List ℕ) → List ℕ → Option ℕ
index_in names name = position (bytes_eq name) names

-- a relation of names, as a relation of their indices in a list
abbrev pub LeadsBy : (List ℕ → List ℕ → Type 0) → List (List ℕ) → ℕ → ℕ → Type 0
LeadsBy Imports names r s = (m n : List ℕ) × (slice_get names r ≡ Some m) × (slice_get names s ≡ Some n) × Imports m n

-- the names at these indices
abbrev pub names_by : List (List ℕ) → List ℕ → List (List ℕ)
names_by names numbers = map (λ v. slice_index_or names v []) numbers

-- the indices of all names, sorted by name
pub record IsByName (names : List (List ℕ)) (order : List ℕ) : Type 0 where
  pub within : All (λ v. v < length names) order
  pub same : IsPermutation names (names_by names order)
  pub ascend : AreAscending (names_by names order)
