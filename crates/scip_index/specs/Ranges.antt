-- Ranges as numbers, and occurrences and symbol information before they are written.
use Rattle.std.specs.Prelude.{◌≡◌, ◌+◌, ◌<◌, ◌^◌, ◌==◌, if◌then◌else◌, false, ℕ, ℤ, pos, List, [], ◌∷◌, ◌++◌, length}
use Rattle.proto_wire.specs.Writing.{head_of, packed_payload, payload_field, spelled}
use Rattle.scip_index.specs.Plain.{OccurrenceModel, SymbolModel as SymbolRow}
use Rattle.scip_index.specs.declared.range.Range.{Range}
use Rattle.scip_index.specs.declared.range.Range.TheVariants.{Nowhere, SingleLine, MultiLine}
use Rattle.scip_index.specs.declared.range.TokenSpan.{TokenSpan}
use Rattle.scip_index.specs.declared.borrowed.BorrowedOccurrence.{BorrowedOccurrence}
use Rattle.scip_index.specs.declared.borrowed.BorrowedSymbol.{BorrowedSymbol}

-- the numbers of a range: line and column of the start, line and column of the end; on one line the second line number is left out
abbrev pub range_between : ℕ → ℕ → ℕ → ℕ → List ℤ
range_between line column last end = if line == last then pos line ∷ pos column ∷ pos end ∷ [] else pos line ∷ pos column ∷ pos last ∷ pos end ∷ []

-- the numbers of a `Range`
abbrev pub numbers_of : Range → List ℤ
numbers_of Nowhere = []
numbers_of (SingleLine numbers) = numbers
numbers_of (MultiLine numbers) = numbers

-- the numbers of the range with this start and end
abbrev pub numbers_in : TokenSpan → List ℤ
numbers_in s = range_between s.line s.column s.last s.end

-- each number is below 2^31
pub record SpanFits (s : TokenSpan) : Type 0 where
  pub line : s.line < 2 ^ 31
  pub column : s.column < 2 ^ 31
  pub last : s.last < 2 ^ 31
  pub end : s.end < 2 ^ 31

-- a borrowed occurrence as contracts describe it
abbrev pub borrowed_occurrence : BorrowedOccurrence → OccurrenceModel
borrowed_occurrence p = record { range = numbers_of p.range; symbol = p.symbol.now; symbol_roles = p.symbol_roles; enclosing_range = numbers_of p.enclosing_range }

-- borrowed symbol information as contracts describe it
abbrev pub borrowed_symbol : BorrowedSymbol → SymbolRow
borrowed_symbol s = record { symbol = s.symbol.now; display_name = s.display_name.now }

-- ---- compact occurrences

-- an occurrence on one line that declares nothing, with this line, start, end, symbol string and role
abbrev pub compact_occurrence : ℕ → ℕ → ℕ → List ℕ → ℕ → OccurrenceModel
compact_occurrence line column end text role = record { range = pos line ∷ pos column ∷ pos end ∷ []; symbol = text; symbol_roles = pos role; enclosing_range = [] }

-- the occurrence is within one of the first 2,097,152 lines and the line's first 128 bytes, declares nothing, and its symbol string and
-- role take few bytes
pub record IsCompact (s : TokenSpan) (size role : ℕ) : Type 0 where
  pub one_line : s.last ≡ s.line
  pub line : s.line < 2097152
  pub column : s.column < 128
  pub end : s.end < 128
  pub some : 0 < size
  pub few : size < 100
  pub role_fits : role < 128
  pub declares_nothing : (role == 1) ≡ false

-- the bytes of the field of a range on one line
abbrev pub range_field : ℕ → ℕ → ℕ → List ℕ
range_field line column end = spelled (payload_field 1 (packed_payload (pos line ∷ pos column ∷ pos end ∷ [])))

-- the bytes of an occurrence's record before its symbol's field, if this many bytes follow the field of the range
abbrev pub prefix_of : ℕ → ℕ → ℕ → ℕ → List ℕ
prefix_of line column end rest = head_of 2 (length (range_field line column end) + rest) ++ range_field line column end
