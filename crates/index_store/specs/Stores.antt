-- The tables of a store, and the entries that each occurrence of an index adds to them.
use Rattle.std.specs.Prelude.{◌≡◌, ◌↔◌, ℕ, ◌<◌, Bool, List, [], ◌∷◌, length, map, Option, Some, None, All, Contains, if◌then◌else◌}
use Rattle.std.specs.List.{flat_map}
use Rattle.std.specs.Str.{bytes_eq}
use Rattle.scip_index.specs.Meaning.{Means}
use Rattle.scip_index.specs.Plain.{DocumentModel, IndexModel}
use Rattle.index_store.specs.declared.row.PathEntry.{PathEntry}
use Rattle.index_store.specs.declared.row.SymbolEntry.{SymbolEntry}
use Rattle.index_store.specs.declared.span.Span.{Span}
use Rattle.index_store.specs.declared.table.StringTable.{StringTable}
use Rattle.index_store.specs.declared.builder.StoreBuilder.{StoreBuilder}
use Rattle.index_store.specs.Queries.{PlacedOccurrence, all_occurrences, is_definition}
use Rattle.index_store.specs.Spans.{span_of}
use Rattle.index_store.specs.Tables.{rows_in, rows_under, text_at, texts_in}

-- ---- what one occurrence adds to the store

-- the span with the symbol; empty if there is no span or the symbol is empty
abbrev pub span_with_symbol : Option Span → List ℕ → List (Span × List ℕ)
span_with_symbol None symbol = []
span_with_symbol (Some span) [] = []
span_with_symbol (Some span) (b ∷ symbol) = (span, b ∷ symbol) ∷ []

-- the span and the symbol string of an occurrence; empty unless it has both and is in a document with this path
abbrev pub covering_in : List ℕ → PlacedOccurrence → List (Span × List ℕ)
covering_in path f = if bytes_eq path f.path then span_with_symbol (span_of f.occurrence.range) f.occurrence.symbol else []

-- an entry of a symbol string: the path of the document, the span, and whether the occurrence has the definition role
pub record MentionModel : Type 0 where
  pub path : List ℕ
  pub span : Span
  pub defines : Bool

-- the entry of a symbol string for an occurrence with this path, span and role; empty if there is no span
abbrev pub mention_with_span : Option Span → List ℕ → Bool → List MentionModel
mention_with_span None path defines = []
mention_with_span (Some span) path defines = record { path = path; span = span; defines = defines } ∷ []

-- the entry of this symbol string for an occurrence; empty unless the occurrence has this symbol and its range denotes a span
abbrev pub mention_of : List ℕ → PlacedOccurrence → List MentionModel
mention_of symbol f = if bytes_eq symbol f.occurrence.symbol then mention_with_span (span_of f.occurrence.range) f.path (is_definition f.occurrence) else []

-- ---- tables

-- the tables of a store: paths with their entries, and symbol strings with their entries
pub record Tables : Type 0 where
  pub paths : List (List ℕ)
  pub coverings : List (List PathEntry)
  pub symbols : List (List ℕ)
  pub mentions : List (List SymbolEntry)

-- the two tables of a store, by path and by symbol string, as lists
abbrev pub tables_in : StringTable PathEntry → StringTable SymbolEntry → Tables
tables_in by_path by_symbol = record { paths = texts_in by_path; coverings = rows_in by_path; symbols = texts_in by_symbol; mentions = rows_in by_symbol }

-- the two tables of a builder as lists
abbrev pub tables_of : StoreBuilder → Tables
tables_of d = tables_in d.by_path d.by_symbol

-- each path and each symbol string of the tables has a list of entries
pub record AreComplete (t : Tables) : Type 0 where
  pub of_paths : length t.paths ≡ length t.coverings
  pub of_symbols : length t.symbols ≡ length t.mentions

-- an entry of a path, with its symbol string in place of the string's index
abbrev pub covering_model : List (List ℕ) → PathEntry → Span × List ℕ
covering_model symbols c = (c.span, text_at symbols c.symbol)

-- an entry of a symbol string, with its document's path in place of the path's index
abbrev pub mention_model : List (List ℕ) → SymbolEntry → MentionModel
mention_model paths m = record { path = text_at paths m.path; span = m.span; defines = m.defines }

-- the entries of a path
abbrev pub coverings_under : Tables → List ℕ → List PathEntry
coverings_under t path = rows_under t.paths t.coverings path

-- the entries of a symbol string
abbrev pub mentions_under : Tables → List ℕ → List SymbolEntry
mentions_under t symbol = rows_under t.symbols t.mentions symbol

-- the tables have exactly these paths, under each path its spans with their symbols, and under each symbol string its occurrences, in order
pub record Keeps (paths : List (List ℕ)) (found : List PlacedOccurrence) (t : Tables) : Type 0 where
  pub named : (path : List ℕ) → Contains t.paths path ↔ Contains paths path
  pub coverings : (path : List ℕ) → map (covering_model t.symbols) (coverings_under t path) ≡ flat_map (covering_in path) found
  pub mentions : (symbol : List ℕ) → map (mention_model t.paths) (mentions_under t symbol) ≡ flat_map (mention_of symbol) found
  pub symbols_valid : (path : List ℕ) → All (λ c. c.symbol < length t.symbols) (coverings_under t path)
  pub paths_valid : (symbol : List ℕ) → All (λ m. m.path < length t.paths) (mentions_under t symbol)

-- the occurrence has this symbol, and the entry has the span and the role of the occurrence
pub record IsMentionOf (f : PlacedOccurrence) (symbol : List ℕ) (m : SymbolEntry) : Type 0 where
  pub placed : span_of f.occurrence.range ≡ Some m.span
  pub defines : m.defines ≡ is_definition f.occurrence
  pub named : f.occurrence.symbol ≡ symbol

-- the paths of documents
abbrev pub paths_of : List DocumentModel → List (List ℕ)
paths_of documents = map (λ document. document.relative_path) documents

-- the tables are those of the index
abbrev pub IsStoreOf : IndexModel → Tables → Type 0
IsStoreOf index t = Keeps (paths_of index.documents) (all_occurrences index) t

-- the bytes encode an index, and the tables are those of the index
abbrev pub IsStoreOfBytes : List ℕ → Tables → Type 0
IsStoreOfBytes bytes t = (index : IndexModel) × Means bytes index × IsStoreOf index t

-- the invariant of a store: its tables are complete, and are those of some paths and occurrences
pub record IsSoundStore (t : Tables) : Type 0 where
  pub whole : AreComplete t
  pub paths : List (List ℕ)
  pub found : List PlacedOccurrence
  pub invariants : Keeps paths found t
