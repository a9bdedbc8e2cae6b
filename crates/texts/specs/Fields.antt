-- The fields of a line: names, numbers, and splits at a byte. A text is a list of bytes.
use Rattle.std.specs.Prelude.{ℕ, ◌^◌, ◌==◌, ◌&&◌, ◌||◌, Bool, false, not, nat_lt, List, [], ◌∷◌, ◌++◌, length, Option, Some, None, option_map, if◌then◌else◌, slice_index}
use Rattle.std.specs.Char.{is_ascii_alphabetic, is_ascii_alphanumeric, is_ascii_digit}
use Rattle.std.specs.Str.Parse.{digits_value}
use Rattle.std.specs.List.{list_all, join_with_byte}

-- the pair of lists after `b` is prepended to its first list
abbrev pub with_first : ℕ → List ℕ × List ℕ → List ℕ × List ℕ
with_first b parts = (b ∷ parts.0, parts.1)

-- the bytes before the first `stop` and the bytes after it; None if `stop` doesn't occur
unfoldable pub split_at_first : ℕ → List ℕ → Option (List ℕ × List ℕ)
split_at_first stop [] = None
split_at_first stop (b ∷ bytes) = if b == stop then Some ([], bytes) else option_map (with_first b) (split_at_first stop bytes)

-- the bytes are one or more digits without a leading zero
abbrev pub is_canonical_number : List ℕ → Bool
is_canonical_number text = list_all is_ascii_digit text && (nat_lt 0 (length text) && (not (slice_index text 0 == 48) || length text == 1))

-- the number below 2 ^ 64 that the bytes denote as decimal digits without a leading zero; None if there is none
unfoldable pub number_of : List ℕ → Option ℕ
number_of text = if is_canonical_number text && nat_lt (digits_value 10 text) (2 ^ 64) then Some (digits_value 10 text) else None

-- the number below 2 ^ 64 that the bytes denote as decimal digits, 0 if there is no byte; leading zeros are allowed; None if there is none
unfoldable pub decimal_u64 : List ℕ → Option ℕ
decimal_u64 text = if list_all is_ascii_digit text && nat_lt (digits_value 10 text) (2 ^ 64) then Some (digits_value 10 text) else None

-- an identifier (Oberon-07 report, section 3): a letter, and then letters and digits
abbrev pub is_name : List ℕ → Bool
is_name [] = false
is_name (b ∷ bytes) = is_ascii_alphabetic b && list_all is_ascii_alphanumeric bytes

-- the bytes, if they are a name
abbrev pub named : List ℕ → Option (List ℕ)
named bytes = if is_name bytes then Some bytes else None

-- the words separated by single blanks
abbrev pub line_of : List (List ℕ) → List ℕ
line_of words = join_with_byte 32 words

-- a line followed by its LF
abbrev pub ended : List ℕ → List ℕ
ended line = line ++ 10 ∷ []
