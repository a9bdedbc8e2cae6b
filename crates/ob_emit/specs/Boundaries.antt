-- Indices into a list of declarations that separate the declarations before a token from the other ones.
use Rattle.std.specs.Prelude.{◌≡◌, ℕ, ◌*◌, ◌≤◌, ◌<◌, List, Some, length, slice_get, slice_index}
use Rattle.module_table.specs.declared.rows.Declared.{Declared}

-- in the list, each declaration before index `place` has a smaller token number than `number`
abbrev pub AreBefore : List Declared → ℕ → ℕ → Type 0
AreBefore declared number place = (k : ℕ) (d : Declared) → k < place → slice_get declared k ≡ Some d → d.number < number

-- in the list, each declaration from index `place` on has a larger token number than `number`
abbrev pub AreAfter : List Declared → ℕ → ℕ → Type 0
AreAfter declared number place = (k : ℕ) (d : Declared) → place ≤ k → slice_get declared k ≡ Some d → number < d.number

-- in the list, each declaration before index `place` has a smaller token number than `number`, and each one from `place` on doesn't
pub record IsBoundary (declared : List Declared) (number place : ℕ) : Type 0 where
  pub before : AreBefore declared number place
  pub from : (k : ℕ) (d : Declared) → place ≤ k → slice_get declared k ≡ Some d → number ≤ d.number

-- the element at index `mark` of `firsts` separates the declarations before token `mark * 16` from the other ones
abbrev pub AreBoundaries : List Declared → List ℕ → Type 0
AreBoundaries declared firsts = (mark : ℕ) → mark < length firsts → IsBoundary declared (mark * 16) (slice_index firsts mark)
