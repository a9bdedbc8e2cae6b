-- Lines and columns, from 0. A line ends with LF, CR LF, or a CR alone, and the bytes of its line end belong to it.
use Rattle.std.specs.Prelude.{◌≡◌, ℕ, ◌+◌, ◌-◌, ◌≤◌, ◌<◌, List, Bool, true, false, ◌==◌, ◌&&◌, ◌||◌, not, ◌⊎◌, length, min, slice_index, count_by}
use Rattle.std.specs.List.{range_with_len, filter}
use Rattle.std.specs.List.Sorted.{IsNonDecreasing}

-- the byte at this offset is the last one of a line end: an LF, or a CR that no LF follows
abbrev pub ends_line : List ℕ → ℕ → Bool
ends_line bytes at = (slice_index bytes at == 10) || ((slice_index bytes at == 13) && not (slice_index bytes (at + 1) == 10))

-- the line of the offset is the number of line ends before it, and its column its distance from the first offset of the line
pub record IsPosition (bytes : List ℕ) (offset line column : ℕ) : Type 0 where
  pub line_is : line ≡ count_by (ends_line bytes) (range_with_len 0 offset)
  pub first : ℕ
  pub column_is : first + column ≡ offset
  pub begins : (first ≡ 0) ⊎ ((last : ℕ) × (last + 1 ≡ first) × (ends_line bytes last ≡ true))
  pub whole : (at : ℕ) → first ≤ at → at < offset → ends_line bytes at ≡ false

-- a line begins at the start of the text, and after each line end
abbrev pub begins_line : List ℕ → ℕ → Bool
begins_line bytes offset = (offset == 0) || ends_line bytes (offset - 1)

-- the offsets below 2 ^ 32 at which lines begin
abbrev pub line_starts : List ℕ → List ℕ
line_starts bytes = filter (begins_line bytes) (range_with_len 0 (min (length bytes + 1) 4294967296))

-- a table of line starts: it has 1 to 2 ^ 32 entries, which are sorted, and the first is 0
pub record IsLineTable (starts : List ℕ) : Type 0 where
  pub some : 0 < length starts
  pub first : slice_index starts 0 ≡ 0
  pub rising : IsNonDecreasing starts
  pub few : length starts ≤ 4294967296
