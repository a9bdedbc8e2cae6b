-- Patterns of names. A name is a list of bytes.
use Rattle.std.specs.Prelude.{◌≡◌, ℕ, ◌==◌, Bool, List, [], ◌∷◌, ◌++◌, map, Option, Some, None}
use Rattle.std.specs.List.{slice_split}
use Rattle.glob.specs.declared.pattern.PiecesAfterStar.{PiecesAfterStar}
use Rattle.glob.specs.declared.pattern.Glob.{Glob}

-- the name consists of these pieces in order, with any bytes between two pieces
abbrev pub Interleaves : List (List ℕ) → List ℕ → Type 0
Interleaves [] name = ⊥
Interleaves (piece ∷ []) name = name ≡ piece
Interleaves (piece ∷ next ∷ pieces) name = (between rest : List ℕ) × (name ≡ piece ++ (between ++ rest)) × Interleaves (next ∷ pieces) rest

-- the byte is `*`
abbrev pub is_star : ℕ → Bool
is_star byte = byte == 42

-- the name matches the pattern: `*` matches any bytes, also none, and every other byte itself
abbrev pub Matches : List ℕ → List ℕ → Type 0
Matches pattern name = Interleaves (slice_split is_star pattern) name

-- ---- parsed patterns

-- the text is any bytes followed by these pieces in order
abbrev pub EndsWithPieces : List (List ℕ) → List ℕ → Type 0
EndsWithPieces pieces text = (between rest : List ℕ) × (text ≡ between ++ rest) × Interleaves pieces rest

-- the pieces after the first `*`
abbrev pub pieces_of : PiecesAfterStar → List (List ℕ)
pieces_of after_star = map (λ piece. piece.now) after_star.inner.items ++ after_star.last.now ∷ []

-- the rest of a name after the first piece: empty if the pattern has no `*`, else the other pieces
abbrev pub FitsRest : Option PiecesAfterStar → List ℕ → Type 0
FitsRest None rest = rest ≡ []
FitsRest (Some after_star) rest = EndsWithPieces (pieces_of after_star) rest

-- the name begins with the first piece, and the rest fits
abbrev pub Fits : Glob → List ℕ → Type 0
Fits glob name = (rest : List ℕ) × (name ≡ glob.first.now ++ rest) × FitsRest glob.after_star rest
