-- What is found in the bytes of an index without a store.
use Rattle.std.specs.Prelude.{◌&&◌, ◌||◌, not, ℕ, Bool, false, List, [], ◌∷◌, map, fold, Option, Result, Ok, Err, if◌then◌else◌}
use Rattle.std.specs.List.{AllByRecursion, flat_map}
use Rattle.std.specs.Str.{IsUtf8, bytes_eq}
use Rattle.proto_wire.specs.MessageBytes.{records_of}
use Rattle.proto_wire.specs.Messages.{field_values, nested_records}
use Rattle.proto_wire.specs.declared.inside.MessageBytes.{MessageBytes}
use Rattle.scip_index.specs.Meaning.{document_of}
use Rattle.scip_index.specs.Plain.{DocumentModel, IndexModel, OccurrenceModel}
use Rattle.index_store.specs.declared.byte_queries.SymbolSpan.{SymbolSpan}
use Rattle.index_store.specs.declared.fault.StoreFault.{StoreFault}
use Rattle.index_store.specs.declared.fault.StoreFault.TheVariants as faults
use Rattle.index_store.specs.declared.location.Position.{Position}
use Rattle.index_store.specs.declared.span.Span.{Span}
use Rattle.index_store.specs.TableLookup.{nearer_if_covering}
use Rattle.index_store.specs.Queries.{HasPath, IsSymbolAt, LocationModel, all_occurrences, is_definition, location_at}
use Rattle.index_store.specs.Spans.{span_of}
use Rattle.index_store.specs.Stores.{span_with_symbol}

-- ---- the symbol at a position

-- the result of a lookup of the symbol at a position: the symbol or none, `NoDocument` if no document has the path, or `Memory`, of which
-- nothing is claimed
abbrev pub IsSymbolLookup : IndexModel → List ℕ → Position → Result (Option (List ℕ)) StoreFault → Type 0
IsSymbolLookup index path at (Ok symbol) = HasPath index path × IsSymbolAt (all_occurrences index) path at symbol
IsSymbolLookup index path at (Err faults.NoDocument) = HasPath index path → ⊥
IsSymbolLookup index path at (Err faults.Memory) = Unit {0}

-- a span with the bytes of its symbol string
abbrev pub symbol_span_model : SymbolSpan → Span × List ℕ
symbol_span_model n = (n.span, n.symbol.now)

-- the span of a span with its symbol string
abbrev pub pair_span : Span × List ℕ → Span
pair_span x = x.0

-- the span and the symbol of an occurrence, if its range denotes a span and its symbol isn't empty
abbrev pub covering_of : OccurrenceModel → List (Span × List ℕ)
covering_of o = span_with_symbol (span_of o.range) o.symbol

-- the nearest of best and these occurrences, of which only those that cover the position count
abbrev pub nearest_of : Position → Option (Span × List ℕ) → List OccurrenceModel → Option (Span × List ℕ)
nearest_of at best occurrences = fold (nearer_if_covering pair_span at) best (flat_map covering_of occurrences)

-- the nearest of best and the occurrences of a document that cover the position; best if the document has another path
abbrev pub nearest_at : List ℕ → Position → Option (Span × List ℕ) → DocumentModel → Option (Span × List ℕ)
nearest_at path at best d = if bytes_eq d.relative_path path then nearest_of at best d.occurrences else best

-- whether a document of the list has the path
abbrev pub has_document : List ℕ → List DocumentModel → Bool
has_document path [] = false
has_document path (d ∷ documents) = bytes_eq d.relative_path path || has_document path documents

-- ---- the occurrences of a symbol

-- the occurrence has the symbol, and it has the definition role if and only if `defines` is true
abbrev pub is_match : Bool → List ℕ → OccurrenceModel → Bool
is_match defines symbol o = bytes_eq o.symbol symbol && (if defines then is_definition o else not (is_definition o))

-- the location of an occurrence in a document with this path, if the occurrence has the symbol and the requested role; otherwise empty
abbrev pub location_of_symbol : Bool → List ℕ → List ℕ → OccurrenceModel → List LocationModel
location_of_symbol defines symbol here o = if is_match defines symbol o then location_at here (span_of o.range) else []

-- the locations in a document of a symbol's definitions if `defines` is true, otherwise of its references; empty if the symbol is local and
-- the document has another path
abbrev pub locations_in_document : Bool → Bool → List ℕ → List ℕ → DocumentModel → List LocationModel
locations_in_document defines local path symbol d = if not local || bytes_eq d.relative_path path then flat_map (location_of_symbol defines symbol d.relative_path) d.occurrences else []

-- ---- the bytes

-- the documents of the index that the bytes encode
abbrev pub documents_of : MessageBytes → List DocumentModel
documents_of m = map document_of (field_values 2 nested_records (records_of m))

-- the path of each document is UTF-8
abbrev pub HaveTextPaths : List DocumentModel → Type 0
HaveTextPaths documents = AllByRecursion (λ d. IsUtf8 d.relative_path) documents
