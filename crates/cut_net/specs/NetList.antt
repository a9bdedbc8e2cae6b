-- Reading a network's text in one pass. The lines read so far may repeat an import.
use Rattle.std.specs.Prelude.{◌≡◌, ◌⊎◌, ℕ, ◌+◌, ◌<◌, ◌≤◌, ◌++◌, List, [], ◌∷◌, length, map, filter, take, slice_index, slice_get, All, Contains, Some}
use Rattle.std.specs.List.{slice_index_or}
use Rattle.cut_net.specs.declared.priced.Priced.{Priced}
use Rattle.cut_net.specs.declared.line_list.LineList.{LineList}
use Rattle.cut_net.specs.Network.{texts}
use Rattle.cut_net.specs.NetReading.{import_line, HasRepeat}
use Rattle.cut_net.specs.NetText.{NetLine, net_line, is_import, pieces_of, AreNamesOf, IsNetLine, Spell}
use Rattle.cut_net.specs.WellFormed.{AreBetween}

-- the lines have no error but repeated imports; `names` are the names of the lines, and `imports` the imports of the lines, each by the
-- indices of its two names
pub record AreListed (lines : List NetLine) (names : List (List ℕ)) (imports : List Priced) : Type 0 where
  pub each : All IsNetLine lines
  pub are_names : AreNamesOf lines names
  pub few_names : length names ≤ 8192
  pub few_imports : length imports ≤ 65536
  pub placed : AreBetween imports (length names)
  pub listed : filter is_import lines ≡ map (import_line names) imports

abbrev pub IsList : List NetLine → LineList → Type 0
IsList lines list = AreListed lines (texts list.names.keys) list.imports.items

-- the list has the lines of the text
abbrev pub IsListOf : List ℕ → LineList → Type 0
IsListOf bytes list = (lines : List NetLine) × Spell (pieces_of bytes) lines × IsList lines list

-- the number at index k is the index in `names` of the name at index k in `old`
abbrev pub AreNumbersOf : List (List ℕ) → List (List ℕ) → List ℕ → Type 0
AreNumbersOf old names numbers = (k : ℕ) → k < length numbers → (slice_index numbers k < length names) × (slice_index_or names (slice_index numbers k) [] ≡ slice_index_or old k [])

-- one of the imports has these modules
abbrev pub HaveImportBetween : List Priced → ℕ → ℕ → Type 0
HaveImportBetween imports from to = (i : Priced) × Contains imports i × (i.from ≡ from) × (i.to ≡ to)

-- the text has the pieces `prefix` and then those of `rest`; or it has only the pieces `prefix`, and `rest` is empty
abbrev pub StartsWithPieces : List ℕ → List (List ℕ) → List ℕ → Type 0
StartsWithPieces text prefix rest = (pieces_of text ≡ prefix ++ pieces_of rest) ⊎ ((pieces_of text ≡ prefix) × (rest ≡ []))

-- the list has the lines `before` and the line of the text's first piece, if that isn't empty; `rest` follows this piece in the text
abbrev pub AddsFirstPiece : List ℕ → List ℕ → List NetLine → LineList → Type 0
AddsFirstPiece text rest before list = (piece : List ℕ) × (more : List NetLine) × Spell (piece ∷ []) more × StartsWithPieces text (piece ∷ []) rest × IsList (before ++ more) list

-- two of the lines `before` and `line` have an equal import, and the list has only the lines `before`
abbrev pub IsRepeat : List NetLine → NetLine → LineList → Type 0
IsRepeat before line list = HasRepeat before line × IsList before list

-- the first piece of the text is a valid line, and an import repeats among the lines `before` and this line
abbrev pub Repeats : List ℕ → List NetLine → LineList → Type 0
Repeats text before list = (line : NetLine) × (later : List (List ℕ)) × (pieces_of text ≡ net_line line ∷ later) × IsNetLine line × IsRepeat before line list

-- an import repeats among the lines up to the one of this number, and the list has only the lines before it
pub record IsRepeatAt (bytes : List ℕ) (number : ℕ) (list : LineList) : Type 0 where
  pub place : ℕ
  pub next : number ≡ place + 1
  pub before : List NetLine
  pub line : NetLine
  pub spelled : Spell (take place (pieces_of bytes)) before
  pub present : slice_get (pieces_of bytes) place ≡ Some (net_line line)
  pub form : IsNetLine line
  pub repeat : IsRepeat before line list
