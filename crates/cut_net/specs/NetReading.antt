-- Reading the text of a network, line by line.
use Rattle.std.specs.Prelude.{◌≡◌, ◌≢◌, ℕ, ◌<◌, ◌≤◌, true, List, [], ◌∷◌, ◌++◌, length, map, filter, codes, Option, Some, None, Result, Ok, Err, if◌then◌else◌, option_map, option_and_then, String, All, AllPairs}
use Rattle.std.specs.List.{list_any, slice_index_or}
use Rattle.std.specs.Option.{option_map_or}
use Rattle.std.specs.Str.{bytes_eq}
use Rattle.texts.specs.Fields.{split_at_first, named, number_of}
use Rattle.cut_net.specs.Network.{Network, texts, unpinned}
use Rattle.cut_net.specs.NetText.{NetLine, Module, Import, net_line, is_import, is_nonempty, pieces_of, HaveDifferentImports, AreWithinLimits, AreNamesOf, IsNetLine, Spell}
use Rattle.cut_net.specs.declared.builder.NetBuilder.{NetBuilder}
use Rattle.cut_net.specs.declared.builder.NetLineFault.{NetLineFault}
use Rattle.cut_net.specs.declared.builder.NetLineFault.TheVariants as fault
use Rattle.cut_net.specs.declared.fault.NetFault.{NetFault}
use Rattle.cut_net.specs.declared.fault.NetFault.TheVariants as faults
use Rattle.cut_net.specs.declared.lines.Line.{Line}
use Rattle.cut_net.specs.declared.lines.Line.TheVariants as line
use Rattle.cut_net.specs.declared.priced.Priced.{Priced}

-- ---- a line

-- the content of a parsed line
abbrev pub line_content : Line → NetLine
line_content (line.Module m) = Module m.now
line_content (line.Import m n w) = Import m.now n.now w

-- the bytes after the keyword and one space, if the piece begins with these
unfoldable pub after_word : List ℕ → List ℕ → Option (List ℕ)
after_word word piece = option_and_then (λ parts. if bytes_eq parts.0 word then Some parts.1 else None) (split_at_first 32 piece)

-- the `import` line with these fields: two names and a number
unfoldable pub import_of : List ℕ → Option NetLine
import_of fields =
    option_and_then (λ parts. option_and_then (λ others. option_and_then (λ m. option_and_then (λ n. option_map (λ w. Import m n w)
    (number_of others.1)) (named others.0)) (named parts.0)) (split_at_first 32 parts.1)) (split_at_first 32 fields)

abbrev pub module_of : List ℕ → Option NetLine
module_of fields = option_map Module (named fields)

-- the line that these bytes spell, if they are a valid one
unfoldable pub line_of_piece : List ℕ → Option NetLine
line_of_piece piece = option_map_or module_of (after_word (codes "module") piece) (option_and_then import_of (after_word (codes "import") piece))

-- ---- the builder

-- the names with this one, appended if it is new
abbrev pub with_name : List (List ℕ) → List ℕ → List (List ℕ)
with_name names name = if list_any (bytes_eq name) names then names else names ++ name ∷ []

-- the line of an import, given by the indices of its names in a list
abbrev pub entry_line : List (List ℕ) → (ℕ × ℕ) × ℕ → NetLine
entry_line names entry = Import (slice_index_or names entry.0.0 []) (slice_index_or names entry.0.1 []) entry.1

-- the lines have no error; `names` are the names of the lines, and `imports` the imports of the lines, each by the indices of its names
pub record AreTablesOf (lines : List NetLine) (names : List (List ℕ)) (imports : List ((ℕ × ℕ) × ℕ)) : Type 0 where
  pub each : All IsNetLine lines
  pub apart : AllPairs HaveDifferentImports lines
  pub are_names : AreNamesOf lines names
  pub few_names : length names ≤ 8192
  pub few_imports : length imports ≤ 65536
  pub placed : All (λ entry. (entry.0.0 < length names) × (entry.0.1 < length names)) imports
  pub listed : filter is_import lines ≡ map (entry_line names) imports

abbrev pub HasLines : List NetLine → NetBuilder → Type 0
HasLines lines builder = AreTablesOf lines (texts builder.names.keys) builder.imports.entries

-- among the lines `before` and this line an import repeats
abbrev pub HasRepeat : List NetLine → NetLine → Type 0
HasRepeat before line = AllPairs HaveDifferentImports (before ++ line ∷ []) → ⊥

-- among the lines `before` and this line no import repeats, but there are too many names or imports
pub record ExceedsLimit (before : List NetLine) (line : NetLine) : Type 0 where
  pub apart : AllPairs HaveDifferentImports (before ++ line ∷ [])
  pub many : AreWithinLimits (before ++ line ∷ []) → ⊥

-- the result of adding a line to a builder with the lines `before`: the builder then has both, or the error is right
abbrev pub AddsLine : List NetLine → NetLine → Result (Unit {0}) NetLineFault → NetBuilder → Type 0
AddsLine before line (Ok _) builder = HasLines (before ++ line ∷ []) builder
AddsLine before line (Err fault.BadLine) builder = ⊥
AddsLine before line (Err fault.TwiceImport) builder = HasRepeat before line
AddsLine before line (Err fault.TooMany) builder = ExceedsLimit before line
AddsLine before line (Err fault.Memory) builder = Unit {0}

-- the result of adding the bytes between two line ends to a builder with the lines `before`
abbrev pub TakesPiece : List NetLine → List ℕ → Result (Unit {0}) NetLineFault → NetBuilder → Type 0
TakesPiece before piece (Ok _) builder = (more : List NetLine) × Spell (piece ∷ []) more × HasLines (before ++ more) builder
TakesPiece before piece (Err fault.BadLine) builder = (is_nonempty piece ≡ true) × ((line : NetLine) → IsNetLine line → net_line line ≢ piece)
TakesPiece before piece (Err fault.TwiceImport) builder = (line : NetLine) × (net_line line ≡ piece) × IsNetLine line × HasRepeat before line
TakesPiece before piece (Err fault.TooMany) builder = (line : NetLine) × (net_line line ≡ piece) × IsNetLine line × ExceedsLimit before line
TakesPiece before piece (Err fault.Memory) builder = Unit {0}

-- ---- the whole text

-- the error of a line, with the number of the line
abbrev pub net_fault_in_line : ℕ → NetLineFault → NetFault
net_fault_in_line line fault.BadLine = faults.BadLine line
net_fault_in_line line fault.TwiceImport = faults.TwiceImport line
net_fault_in_line line fault.TooMany = faults.TooMany line
net_fault_in_line line fault.Memory = faults.Memory

-- the builder has the lines of the text
abbrev pub HasTextLines : List ℕ → NetBuilder → Type 0
HasTextLines bytes builder = (lines : List NetLine) × Spell (pieces_of bytes) lines × HasLines lines builder

-- the builder has the names and imports of a list of lines
abbrev pub IsBuilder : NetBuilder → Type 0
IsBuilder builder = (lines : List NetLine) × HasLines lines builder

-- the line of an import, given by the numbers of its modules
abbrev pub import_line : List (List ℕ) → Priced → NetLine
import_line names i = Import (slice_index_or names i.from []) (slice_index_or names i.to []) i.amount

-- the network of these names and imports, without pins
abbrev pub net_of : {Z : Type 0} → List (String Z) → List Priced → Network
net_of names imports = unpinned (texts names) imports

-- the network of these names, imports and pins
abbrev pub net_with : {Z : Type 0} → List (String Z) → List Priced → List Priced → Network
net_with names imports pins = record { names = texts names; imports = imports; pins = pins }
