-- The numbers of names in their order.
use Rattle.std.specs.Prelude.{◌≡◌, ◌<◌, ℕ, List, [], length, slice_index}
use Rattle.std.specs.List.{slice_index_or}

-- the number at index k is the index in the second list of the name at index k in the first
abbrev pub AreNumbers : List (List ℕ) → List (List ℕ) → List ℕ → Type 0
AreNumbers old names numbers = (k : ℕ) → k < length numbers → (slice_index numbers k < length names) × (slice_index_or names (slice_index numbers k) [] ≡ slice_index_or old k [])
