-- Escapes of control characters, with which a text is one line.
use Rattle.std.specs.Prelude.{◌≡◌, ℕ, ◌/◌, ◌%◌, ◌==◌, false, List, [], ◌∷◌, ◌++◌, codes, if◌then◌else◌}
use Rattle.std.specs.Char.{digit_char, is_ascii_control}
use Rattle.std.specs.List.{flat_map, list_any}

-- `\x` and two hexadecimal digits
abbrev pub hex_escape : ℕ → List ℕ
hex_escape code = codes "\\x" ++ digit_char (code / 16) ∷ digit_char (code % 16) ∷ []

-- the escape of a control character: `\t`, `\n`, `\r`, or its code in hexadecimal
abbrev pub escape_of : ℕ → List ℕ
escape_of code = if code == 9 then codes "\\t" else (if code == 10 then codes "\\n" else (if code == 13 then codes "\\r" else hex_escape code))

-- the escape of a byte below 32 or of 127; any other byte itself
abbrev pub escaped_byte : ℕ → List ℕ
escaped_byte byte = if is_ascii_control byte then escape_of byte else byte ∷ []

-- the text with its control characters escaped
abbrev pub escaped : List ℕ → List ℕ
escaped text = flat_map escaped_byte text

-- one line: it ends with its LF, and has no other control character
pub record IsOneLine (text : List ℕ) : Type 0 where
  pub line : List ℕ
  pub ends : text ≡ line ++ codes "\n"
  pub plain : list_any is_ascii_control line ≡ false
