-- Comments: `(*`, any bytes and comments, and `*)` (Oberon-07 report, section 3). The brackets are read from left to right and do not
-- overlap, so `(*)` is not closed.
use Rattle.std.specs.Prelude.{◌≡◌, ℕ, List, [], ◌∷◌, ◌++◌, codes, Bool, false, ◌==◌, ◌&&◌, ◌||◌}

-- the bytes begin with these two bytes
abbrev pub begins_with : ℕ → ℕ → List ℕ → Bool
begins_with x y [] = false
begins_with x y (b ∷ []) = false
begins_with x y (b ∷ c ∷ bs) = (b == x) && (c == y)

-- the bytes begin with `(*`
abbrev pub begins_comment : List ℕ → Bool
begins_comment bs = begins_with 40 42 bs

-- the bytes begin with `*)`
abbrev pub ends_comment : List ℕ → Bool
ends_comment bs = begins_with 42 41 bs

-- after a `(*`, these bytes go on to its `*)`, and `rest` follows
pub data Closes : List ℕ → List ℕ → Type 0 where
  closed : {bs rest : List ℕ} → bs ≡ codes "*)" ++ rest → Closes bs rest
  nested : {bs inner after rest : List ℕ} → bs ≡ codes "(*" ++ inner → Closes inner after → Closes after rest → Closes bs rest
  other : {bs after rest : List ℕ} {b : ℕ} → bs ≡ b ∷ after → begins_comment bs || ends_comment bs ≡ false → Closes after rest → Closes bs rest
