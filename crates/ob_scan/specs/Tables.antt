-- The table of reserved words and delimiters, by their texts.
use Rattle.std.specs.Prelude.{ℕ, List, Option, Some, None, length, codes, ◌==◌, ◌&&◌, if◌then◌else◌}
use Rattle.std.specs.Str.{bytes_eq}
use Rattle.ob_scan.specs.declared.kind.Kind.{Kind}
use Rattle.ob_scan.specs.declared.kind.Kind.TheVariants as kinds

-- the reserved word of two, three, four, five or more letters that the text is
abbrev pub two_letter_word : List ℕ → Option Kind
two_letter_word text =
    if bytes_eq text (codes "BY") then Some kinds.By
    else if bytes_eq text (codes "DO") then Some kinds.Do
    else if bytes_eq text (codes "IF") then Some kinds.If
    else if bytes_eq text (codes "IN") then Some kinds.In
    else if bytes_eq text (codes "IS") then Some kinds.Is
    else if bytes_eq text (codes "OF") then Some kinds.Of
    else if bytes_eq text (codes "OR") then Some kinds.Or
    else if bytes_eq text (codes "TO") then Some kinds.To
    else None

abbrev pub three_letter_word : List ℕ → Option Kind
three_letter_word text =
    if bytes_eq text (codes "DIV") then Some kinds.Div
    else if bytes_eq text (codes "END") then Some kinds.End
    else if bytes_eq text (codes "FOR") then Some kinds.For
    else if bytes_eq text (codes "MOD") then Some kinds.Mod
    else if bytes_eq text (codes "NIL") then Some kinds.Nil
    else if bytes_eq text (codes "VAR") then Some kinds.Var
    else None

abbrev pub four_letter_word : List ℕ → Option Kind
four_letter_word text =
    if bytes_eq text (codes "CASE") then Some kinds.Case
    else if bytes_eq text (codes "ELSE") then Some kinds.Else
    else if bytes_eq text (codes "THEN") then Some kinds.Then
    else if bytes_eq text (codes "TRUE") then Some kinds.True
    else if bytes_eq text (codes "TYPE") then Some kinds.Type
    else None

abbrev pub five_letter_word : List ℕ → Option Kind
five_letter_word text =
    if bytes_eq text (codes "ARRAY") then Some kinds.Array
    else if bytes_eq text (codes "BEGIN") then Some kinds.Begin
    else if bytes_eq text (codes "CONST") then Some kinds.Const
    else if bytes_eq text (codes "ELSIF") then Some kinds.Elsif
    else if bytes_eq text (codes "FALSE") then Some kinds.False
    else if bytes_eq text (codes "UNTIL") then Some kinds.Until
    else if bytes_eq text (codes "WHILE") then Some kinds.While
    else None

abbrev pub longer_word : List ℕ → Option Kind
longer_word text =
    if bytes_eq text (codes "IMPORT") then Some kinds.Import
    else if bytes_eq text (codes "MODULE") then Some kinds.Module
    else if bytes_eq text (codes "POINTER") then Some kinds.Pointer
    else if bytes_eq text (codes "PROCEDURE") then Some kinds.Procedure
    else if bytes_eq text (codes "RECORD") then Some kinds.Record
    else if bytes_eq text (codes "REPEAT") then Some kinds.Repeat
    else if bytes_eq text (codes "RETURN") then Some kinds.Return
    else None

-- the reserved word that the text is
abbrev pub reserved_word : List ℕ → Option Kind
reserved_word text =
    if length text == 2 then two_letter_word text
    else if length text == 3 then three_letter_word text
    else if length text == 4 then four_letter_word text
    else if length text == 5 then five_letter_word text
    else longer_word text

-- the delimiter of this byte
abbrev pub one_byte_delimiter : ℕ → Option Kind
one_byte_delimiter b =
    if b == 43 then Some kinds.Plus
    else if b == 45 then Some kinds.Minus
    else if b == 42 then Some kinds.Star
    else if b == 47 then Some kinds.Slash
    else if b == 126 then Some kinds.Tilde
    else if b == 38 then Some kinds.Ampersand
    else if b == 46 then Some kinds.Dot
    else if b == 44 then Some kinds.Comma
    else if b == 59 then Some kinds.Semicolon
    else if b == 124 then Some kinds.Bar
    else if b == 40 then Some kinds.LeftParen
    else if b == 41 then Some kinds.RightParen
    else if b == 91 then Some kinds.LeftBracket
    else if b == 93 then Some kinds.RightBracket
    else if b == 123 then Some kinds.LeftBrace
    else if b == 125 then Some kinds.RightBrace
    else if b == 94 then Some kinds.Caret
    else if b == 61 then Some kinds.Equals
    else if b == 35 then Some kinds.Hash
    else if b == 60 then Some kinds.Less
    else if b == 62 then Some kinds.Greater
    else if b == 58 then Some kinds.Colon
    else None

-- the delimiter of these two bytes
abbrev pub two_byte_delimiter : ℕ → ℕ → Option Kind
two_byte_delimiter b c =
    if (b == 58) && (c == 61) then Some kinds.Assign
    else if (b == 60) && (c == 61) then Some kinds.LessEquals
    else if (b == 62) && (c == 61) then Some kinds.GreaterEquals
    else if (b == 46) && (c == 46) then Some kinds.DotDot
    else None
