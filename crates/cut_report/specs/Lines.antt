-- A line of a report, parsed field by field, for contracts of private functions.
use Rattle.std.specs.Prelude.{ℕ, ◌≡◌, ◌==◌, ◌&&◌, nat_lt, List, ◌∷◌, ◌++◌, codes, Option, Some, None, if◌then◌else◌}
use Rattle.std.specs.List.{list_all, slice_split}
use Rattle.std.specs.Str.{bytes_eq}
use Rattle.texts.specs.Fields.{split_at_first, is_name, named, number_of}
use Rattle.cut_report.specs.ReportLine.{ReportLine, Ends, Weighs, Removes, Flows, Blocks, Last}
use Rattle.cut_report.specs.declared.line.Line.{Line}
use Rattle.cut_report.specs.declared.line.Line.TheVariants as lines

-- the words into which single spaces split the bytes
abbrev pub words_of : List ℕ → List (List ℕ)
words_of bytes = slice_split (λ b. b == 32) bytes

-- the text, which has `count` words, with one more word, after a space unless it is the first word
abbrev pub joined_with : List ℕ → ℕ → List ℕ → List ℕ
joined_with text count word = if count == 0 then text ++ word else text ++ 32 ∷ word

-- the content of a line, with names as byte lists
abbrev pub line_content : Line → ReportLine
line_content (lines.Ends m n) = Ends m.now n.now
line_content (lines.Weighs w) = Weighs w
line_content (lines.Removes m n w) = Removes m.now n.now w
line_content (lines.Flows m n f) = Flows m.now n.now f
line_content (lines.Blocks names) = Blocks (words_of names.now)
line_content lines.Last = Last

infixl 10 ◌>>=◌
abbrev pub ◌>>=◌ : {A B : Type 0} → Option A → (A → Option B) → Option B
None >>= f = None
(Some x) >>= f = f x

-- the names of a `cut` line, from its fields: two names
unfoldable pub ends_of : List ℕ → Option (List ℕ × List ℕ)
ends_of fields = do
  parts ← split_at_first 32 fields
  from ← named parts.0
  to ← named parts.1
  Some (from, to)

-- the names and the amount of a `remove` or `flow` line, from its fields: two names and a number
unfoldable pub amount_of : List ℕ → Option (List ℕ × List ℕ × ℕ)
amount_of fields = do
  first ← split_at_first 32 fields
  second ← split_at_first 32 first.1
  from ← named first.0
  to ← named second.0
  amount ← number_of second.1
  Some (from, to, amount)

-- the `remove` or `flow` line with this keyword, two names and an amount; None for another keyword or a flow of 0
abbrev pub import_under : List ℕ → List ℕ × List ℕ × ℕ → Option ReportLine
import_under word x =
    if bytes_eq word (codes "remove") then Some (Removes x.0 x.1 x.2)
    else (if bytes_eq word (codes "flow") && nat_lt 0 x.2 then Some (Flows x.0 x.1 x.2) else None)

-- the `blocked` line with these fields, if they are one or more names; otherwise None
unfoldable pub blocks_of : List ℕ → Option ReportLine
blocks_of fields = if list_all is_name (words_of fields) then Some (Blocks (words_of fields)) else None

-- the line with this keyword and these fields, if it is valid; otherwise None
unfoldable pub line_under : List ℕ → List ℕ → Option ReportLine
line_under word fields =
    if bytes_eq word (codes "cut") then (ends_of fields >>= λ x. Some (Ends x.0 x.1))
    else (if bytes_eq word (codes "weight") then (number_of fields >>= λ w. Some (Weighs w))
    else (if bytes_eq word (codes "blocked") then blocks_of fields
    else (amount_of fields >>= import_under word)))

-- the line with these bytes, if it is valid; otherwise None
unfoldable pub line_of_text : List ℕ → Option ReportLine
line_of_text text = if bytes_eq text (codes "end") then Some Last else (split_at_first 32 text >>= λ parts. line_under parts.0 parts.1)

-- the bytes have an LF; the first line before it has the content `claim` (None if it is invalid), and `rest` follows the LF
abbrev pub IsFirstLine : List ℕ → Option ReportLine → List ℕ → Type 0
IsFirstLine text claim rest = (line : List ℕ) × (split_at_first 10 text ≡ Some (line, rest)) × (line_of_text line ≡ claim)
