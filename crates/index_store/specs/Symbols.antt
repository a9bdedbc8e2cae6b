-- The definitions in an index, and their lines.
use Rattle.std.specs.Prelude.{◌&&◌, ◌||◌, not, ℕ, Bool, true, List, [], ◌++◌, codes, map, filter, Option, Some, None, if◌then◌else◌}
use Rattle.std.specs.List.{AllByRecursion, flat_map}
use Rattle.std.specs.Option.{is_some}
use Rattle.std.specs.Str.{IsUtf8, bytes_eq}
use Rattle.texts.specs.Escapes.{escaped}
use Rattle.texts.specs.Places.{Style}
use Rattle.scip_index.specs.Plain.{DocumentModel, IndexModel, OccurrenceModel}
use Rattle.index_store.specs.declared.span.Span.{Span}
use Rattle.index_store.specs.Direct.{covering_of}
use Rattle.index_store.specs.Lines.{range_text}
use Rattle.index_store.specs.Queries.{PlacedOccurrence, LocationModel, all_occurrences, is_definition, is_local, location_of}

-- the occurrence has the definition role and a symbol
abbrev pub defines_symbol : OccurrenceModel → Bool
defines_symbol o = is_definition o && not (bytes_eq o.symbol [])

-- whether the occurrence is listed: without a path if it defines a symbol that isn't local, with a path if it defines a symbol in a
-- document with that path
abbrev pub is_listed : Option (List ℕ) → PlacedOccurrence → Bool
is_listed None f = defines_symbol f.occurrence && not (is_local f.occurrence.symbol)
is_listed (Some path) f = defines_symbol f.occurrence && bytes_eq f.path path

-- a definition: its location and its symbol string
pub record ListedDefinition : Type 0 where
  pub location : LocationModel
  pub symbol : List ℕ

-- the definition of a symbol at a location
abbrev pub defined_at : List ℕ → LocationModel → ListedDefinition
defined_at symbol location = record { location = location; symbol = symbol }

-- the definition of an occurrence, if the occurrence's range denotes a span
abbrev pub definition_of : PlacedOccurrence → List ListedDefinition
definition_of f = map (defined_at f.occurrence.symbol) (location_of f)

-- the definitions that are listed and have a location, in the index's order
abbrev pub definitions_listed : IndexModel → Option (List ℕ) → List ListedDefinition
definitions_listed index path = flat_map definition_of (filter (is_listed path) (all_occurrences index))

-- a definition as PATH:LINE:COL-LINE:COL SYMBOL with an LF: the location in this style, the control characters of path and symbol escaped
abbrev pub definition_line : Style → ListedDefinition → List ℕ
definition_line style d = range_text style d.location ++ codes " " ++ escaped d.symbol ++ codes "\n"

-- a line for each definition, in their order
abbrev pub definition_lines : Style → List ListedDefinition → List ℕ
definition_lines style definitions = flat_map (definition_line style) definitions

-- ---- document by document

-- the span and the symbol of an occurrence; empty unless it has both and the definition role, and is not of a local symbol or local symbols
-- are listed
abbrev pub spans_listed : Bool → OccurrenceModel → List (Span × List ℕ)
spans_listed with_local o = if is_definition o && (with_local || not (is_local o.symbol)) then covering_of o else []

-- the line of a span and a symbol in a document of this path
abbrev pub line_at : Style → List ℕ → Span × List ℕ → List ℕ
line_at style path x = definition_line style (record { location = record { path = path; span = x.0 }; symbol = x.1 })

-- the line of an occurrence in a document of this path, if the occurrence is listed
abbrev pub lines_of_occurrence : Style → Bool → List ℕ → OccurrenceModel → List ℕ
lines_of_occurrence style with_local path o = flat_map (line_at style path) (spans_listed with_local o)

-- the lines of the listed occurrences of a document of this path
abbrev pub lines_in : Style → Bool → List ℕ → List OccurrenceModel → List ℕ
lines_in style with_local path occurrences = flat_map (lines_of_occurrence style with_local path) occurrences

-- whether definitions in documents with this path are requested: without a requested path in all documents
abbrev pub is_requested : Option (List ℕ) → List ℕ → Bool
is_requested None path = true
is_requested (Some requested) path = bytes_eq path requested

-- the lines of a document, if it is requested; local symbols are listed if a path is given
abbrev pub lines_of_document : Style → Option (List ℕ) → DocumentModel → List ℕ
lines_of_document style requested d = if is_requested requested d.relative_path then lines_in style (is_some requested) d.relative_path d.occurrences else []

-- the symbol string of each occurrence is UTF-8
abbrev pub HaveTextSymbols : List OccurrenceModel → Type 0
HaveTextSymbols occurrences = AllByRecursion (λ o. IsUtf8 o.symbol) occurrences

-- the path of a document and the symbol strings of its occurrences are UTF-8
abbrev pub IsTextDocument : DocumentModel → Type 0
IsTextDocument d = IsUtf8 d.relative_path × HaveTextSymbols d.occurrences

-- the paths of the documents and the symbol strings of their occurrences are UTF-8
abbrev pub AreTextDocuments : List DocumentModel → Type 0
AreTextDocuments documents = AllByRecursion IsTextDocument documents
