-- Runs of `list_symbols`, `write_symbol` and `query_symbol`: what each reads and writes.
use Rattle.std.specs.Prelude.{◌≡◌, ◌⊎◌, ℕ, List, [], ◌++◌, codes, Option, Some, None, Result, Ok, Err, if◌then◌else◌}
use Rattle.std.specs.Io.KnownBytes.{Appends, Keeps}
use Rattle.byte_sink.specs.Sinks.{AppendsPrefix}
use Rattle.proto_wire.specs.Messages.{IsFirstFault}
use Rattle.texts.specs.Escapes.{escaped}
use Rattle.texts.specs.Places.{Style}
use Rattle.scip_index.specs.Meaning.{index_fault, Means}
use Rattle.scip_index.specs.Plain.{IndexModel}
use Rattle.index_store.specs.declared.query_runs.Which.{Which}
use Rattle.index_store.specs.declared.location.Position.{Position}
use Rattle.index_store.specs.declared.query_fault.QueryFault.{QueryFault}
use Rattle.index_store.specs.declared.query_fault.QueryFault.TheVariants.{Wire, NoDocument, Device, Memory}
use Rattle.index_store.specs.QueryRuns.{requested_locations}
use Rattle.index_store.specs.Lines.{location_lines}
use Rattle.index_store.specs.Queries.{LocationModel, all_occurrences, is_local, HasPath, IsSymbolAt}
use Rattle.index_store.specs.Symbols.{definition_lines, definitions_listed}

-- a document of the index has the path, if a path is given
abbrev pub HasRequestedPath : IndexModel → Option (List ℕ) → Type 0
HasRequestedPath index None = Unit {0}
HasRequestedPath index (Some path) = HasPath index path

-- the bytes encode an index that has the requested document, if one is requested, and the text is the output for that index
pub record IsOutput (Has : IndexModel → Type 0) (IsText : IndexModel → List ℕ → Type 0) (bytes text : List ℕ) : Type 0 where
  pub index : IndexModel
  pub means : Means bytes index
  pub has : Has index
  pub text_is : IsText index text

-- the bytes encode an index that doesn't have the requested document
abbrev pub LacksRequested : (IndexModel → Type 0) → List ℕ → Type 0
LacksRequested Has bytes = (index : IndexModel) × Means bytes index × (Has index → ⊥)

-- what a run writes: with `Ok` the whole output, with `Device` or `Memory` at most a prefix of it, with another error nothing
abbrev pub IsOutputRun : (IndexModel → Type 0) → (IndexModel → List ℕ → Type 0) → List ℕ → Option (List ℕ) → Option (List ℕ) → Result (Unit {0}) QueryFault → Type 0
IsOutputRun Has IsText bytes old new (Ok _) = (text : List ℕ) × IsOutput Has IsText bytes text × Appends old new text
IsOutputRun Has IsText bytes old new (Err (Wire fault)) = IsFirstFault index_fault 0 bytes fault × Keeps old new
IsOutputRun Has IsText bytes old new (Err NoDocument) = LacksRequested Has bytes × Keeps old new
IsOutputRun Has IsText bytes old new (Err Device) = (text : List ℕ) × IsOutput Has IsText bytes text × AppendsPrefix old new text
IsOutputRun Has IsText bytes old new (Err Memory) = Keeps old new ⊎ ((text : List ℕ) × IsOutput Has IsText bytes text × AppendsPrefix old new text)

-- ---- the definitions

-- the text has a line for each definition of all documents, or of the documents of the given path
abbrev pub IsDefinitionsText : Style → Option (List ℕ) → IndexModel → List ℕ → Type 0
IsDefinitionsText style path index text = text ≡ definition_lines style (definitions_listed index path)

-- what a run of `list_symbols` writes; `NoDocument` means that no document has the given path
abbrev pub IsSymbolsRun : Style → List ℕ → Option (List ℕ) → Option (List ℕ) → Option (List ℕ) → Result (Unit {0}) QueryFault → Type 0
IsSymbolsRun style bytes path old new result = IsOutputRun (λ index. HasRequestedPath index path) (IsDefinitionsText style path) bytes old new result

-- ---- the symbol at a position

-- the line of a symbol string, with its control characters escaped; empty if there is no symbol
abbrev pub symbol_line : Option (List ℕ) → List ℕ
symbol_line None = []
symbol_line (Some symbol) = escaped symbol ++ codes "\n"

-- the text is the line of the symbol at a position, or is empty if no symbol is there
abbrev pub IsSymbolText : List ℕ → Position → IndexModel → List ℕ → Type 0
IsSymbolText path at index text = (symbol : Option (List ℕ)) × IsSymbolAt (all_occurrences index) path at symbol × (text ≡ symbol_line symbol)

-- what a run of `write_symbol` writes; `NoDocument` means that no document has the path
abbrev pub IsSymbolRun : List ℕ → List ℕ → Position → Option (List ℕ) → Option (List ℕ) → Result (Unit {0}) QueryFault → Type 0
IsSymbolRun bytes path at old new result = IsOutputRun (λ index. HasPath index path) (IsSymbolText path at) bytes old new result

-- ---- the locations of a symbol by its string

-- the locations of the definitions or references of the symbol with this string: of a local symbol in the documents with the given path,
-- none without a path; of any other symbol in all documents
abbrev pub locations_by_symbol : Which → IndexModel → Option (List ℕ) → List ℕ → List LocationModel
locations_by_symbol which index (Some path) symbol = requested_locations which index path symbol
locations_by_symbol which index None symbol = if is_local symbol then [] else requested_locations which index [] symbol

-- the text has the lines of the locations of a symbol by its string
abbrev pub IsLocationsText : Style → Which → Option (List ℕ) → List ℕ → IndexModel → List ℕ → Type 0
IsLocationsText style which path symbol index text = text ≡ location_lines style (locations_by_symbol which index path symbol)

-- what a run of `query_symbol` writes; `NoDocument` means that no document has the given path
abbrev pub IsNamedRun : Style → List ℕ → Option (List ℕ) → List ℕ → Which → Option (List ℕ) → Option (List ℕ) → Result (Unit {0}) QueryFault → Type 0
IsNamedRun style bytes path symbol which old new result = IsOutputRun (λ index. HasRequestedPath index path) (IsLocationsText style which path symbol) bytes old new result
