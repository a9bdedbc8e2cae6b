-- Parts and names in which a byte, the delimiter, is doubled, so that a single delimiter ends them.
use Rattle.std.specs.Prelude.{◌≡◌, ◌≢◌, ℕ, ◌==◌, List, [], ◌∷◌, ◌++◌, if◌then◌else◌}

-- the bytes with each occurrence of `delimiter` doubled
abbrev pub doubled : ℕ → List ℕ → List ℕ
doubled delimiter [] = []
doubled delimiter (b ∷ bytes) = if b == delimiter then b ∷ b ∷ doubled delimiter bytes else b ∷ doubled delimiter bytes

-- the list doesn't begin with the byte `delimiter`
abbrev pub IsNotFirst : ℕ → List ℕ → Type 0
IsNotFirst delimiter [] = Unit {0}
IsNotFirst delimiter (b ∷ bytes) = b ≢ delimiter

-- the text is this part with each `delimiter` in it doubled, then a single `delimiter`, which ends the part, then the rest, which doesn't
-- begin with `delimiter`
pub record IsEnded (delimiter : ℕ) (text part rest : List ℕ) : Type 0 where
  pub whole : text ≡ doubled delimiter part ++ delimiter ∷ rest
  pub next : IsNotFirst delimiter rest

-- each run of delimiters in the text has an even length, so no single delimiter ends a part
abbrev pub IsUnended : ℕ → List ℕ → Type 0
IsUnended delimiter text = (part rest : List ℕ) → IsEnded delimiter text part rest → ⊥
