-- Positions in a document, and spans between them.
use Rattle.std.specs.Prelude.{ℕ, ◌==◌, ◌&&◌, ◌||◌, Bool, not, nat_lt, ℤ, pos, List, [], ◌∷◌, Option, Some, None}
use Rattle.index_store.specs.declared.location.Position.{Position}
use Rattle.index_store.specs.declared.span.Span.{Span}

-- position a is before position b
abbrev pub is_before : Position → Position → Bool
is_before a b = nat_lt a.line b.line || ((a.line == b.line) && nat_lt a.column b.column)

-- the span between two positions, by line and column of its start and of its end
abbrev pub span_at : ℕ → ℕ → ℕ → ℕ → Span
span_at line start last end = record { start = record { line = line; column = start }; end = record { line = last; column = end } }

-- the number, or none if it is negative
abbrev pub natural : ℤ → Option ℕ
natural (pos n) = Some n
natural negative = None

-- the span between two positions, or none if one of the numbers is missing
abbrev pub span_between : Option ℕ → Option ℕ → Option ℕ → Option ℕ → Option Span
span_between (Some line) (Some start) (Some last) (Some end) = Some (span_at line start last end)
span_between line start last end = None

-- the span that the numbers of a range denote: line, start and end, or line, start, last line and end; none of them negative
abbrev pub span_of : List ℤ → Option Span
span_of [] = None
span_of (a ∷ []) = None
span_of (a ∷ b ∷ []) = None
span_of (line ∷ start ∷ end ∷ []) = span_between (natural line) (natural start) (natural line) (natural end)
span_of (line ∷ start ∷ last ∷ end ∷ []) = span_between (natural line) (natural start) (natural last) (natural end)
span_of (a ∷ b ∷ c ∷ d ∷ e ∷ more) = None

-- the span contains the position: it starts at or before the position and ends after it
abbrev pub is_in_span : Position → Span → Bool
is_in_span at span = not (is_before at span.start) && is_before at span.end

-- the first span is nearer than the second: it starts later, or starts at the same position and ends earlier
abbrev pub is_nearer : Span → Span → Bool
is_nearer a b = is_before b.start a.start || (not (is_before a.start b.start) && is_before a.end b.end)
