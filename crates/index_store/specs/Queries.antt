-- Queries, as properties of the list of all occurrences of all documents, in the index's order.
use Rattle.std.specs.Prelude.{◌≡◌, ◌≢◌, ℕ, ◌%◌, ◌==◌, ◌&&◌, ◌||◌, Bool, true, false, not, nat_eq, List, [], ◌∷◌, ◌++◌, map, filter, Option, Some, None, Result, Ok, Err, Contains}
use Rattle.std.specs.List.{flat_map, starts_with}
use Rattle.std.specs.Int.{w32, cast_unsigned}
use Rattle.std.specs.Str.{bytes_eq}
use Rattle.scip_index.specs.Plain.{OccurrenceModel, DocumentModel, IndexModel}
use Rattle.index_store.specs.declared.fault.StoreFault.{StoreFault}
use Rattle.index_store.specs.declared.fault.StoreFault.TheVariants as faults
use Rattle.index_store.specs.declared.location.Place.{Place}
use Rattle.index_store.specs.declared.location.Position.{Position}
use Rattle.index_store.specs.declared.span.Span.{Span}
use Rattle.index_store.specs.Spans.{is_in_span, is_nearer, span_of}

-- an occurrence with its document's path
pub record PlacedOccurrence : Type 0 where
  pub path : List ℕ
  pub occurrence : OccurrenceModel

-- an occurrence of a document with this path
abbrev pub occurrence_at : List ℕ → OccurrenceModel → PlacedOccurrence
occurrence_at path occurrence = record { path = path; occurrence = occurrence }

-- the occurrences of a document, with its path
abbrev pub occurrences_in : DocumentModel → List PlacedOccurrence
occurrences_in document = map (occurrence_at document.relative_path) document.occurrences

-- all occurrences of all documents, in the index's order
abbrev pub all_occurrences : IndexModel → List PlacedOccurrence
all_occurrences index = flat_map occurrences_in index.documents

-- a document of the index has this path
abbrev pub HasPath : IndexModel → List ℕ → Type 0
HasPath index path = Contains (map (λ document. document.relative_path) index.documents) path

-- the result with `seen` applied to its value; an error is unchanged
abbrev pub map_ok : {A B E : Type 0} → (A → B) → Result A E → Result B E
map_ok seen (Ok x) = Ok (seen x)
map_ok seen (Err e) = Err e

-- ---- the symbol at a position

-- the occurrence is in a document of this path, has a symbol, and has this span, which contains the position
pub record Covers (path : List ℕ) (at : Position) (f : PlacedOccurrence) (span : Span) : Type 0 where
  pub here : f.path ≡ path
  pub some : f.occurrence.symbol ≢ []
  pub placed : span_of f.occurrence.range ≡ Some span
  pub inside : is_in_span at span ≡ true

-- the nearest occurrence that covers the position: no other covering one is nearer, and none before it is equally near
pub record IsNearest (found : List PlacedOccurrence) (path : List ℕ) (at : Position) (f : PlacedOccurrence) (span : Span) : Type 0 where
  pub before : List PlacedOccurrence
  pub after : List PlacedOccurrence
  pub among : found ≡ before ++ f ∷ after
  pub covers : Covers path at f span
  pub first : (g : PlacedOccurrence) (other : Span) → Contains before g → Covers path at g other → is_nearer span other ≡ true
  pub latest : (g : PlacedOccurrence) (other : Span) → Contains after g → Covers path at g other → is_nearer other span ≡ false

-- no occurrence covers the position
abbrev pub NoneCovers : List PlacedOccurrence → List ℕ → Position → Type 0
NoneCovers found path at = (g : PlacedOccurrence) (other : Span) → Contains found g → Covers path at g other → ⊥

-- the symbol of the nearest occurrence that covers the position, or none if no occurrence covers it
abbrev pub IsSymbolAt : List PlacedOccurrence → List ℕ → Position → Option (List ℕ) → Type 0
IsSymbolAt found path at None = NoneCovers found path at
IsSymbolAt found path at (Some symbol) = (f : PlacedOccurrence) × (span : Span) × IsNearest found path at f span × (f.occurrence.symbol ≡ symbol)

-- the result of a store's lookup at a position: the symbol or none, or `NoDocument` if no document has the path; never `Memory`
abbrev pub IsSymbolResult : IndexModel → List ℕ → Position → Result (Option (List ℕ)) StoreFault → Type 0
IsSymbolResult index path at (Ok symbol) = HasPath index path × IsSymbolAt (all_occurrences index) path at symbol
IsSymbolResult index path at (Err faults.NoDocument) = HasPath index path → ⊥
IsSymbolResult index path at (Err faults.Memory) = ⊥

-- ---- where a symbol is defined and used

-- the bytes of "local "
abbrev pub local_prefix : List ℕ
local_prefix = 108 ∷ 111 ∷ 99 ∷ 97 ∷ 108 ∷ 32 ∷ []

-- the symbol string begins with "local ", so the symbol is one of a single document
abbrev pub is_local : List ℕ → Bool
is_local symbol = starts_with nat_eq symbol local_prefix

-- the occurrence has the symbol and, if the symbol is local, is in a document of the path
abbrev pub matches_lookup : List ℕ → List ℕ → PlacedOccurrence → Bool
matches_lookup path symbol f = bytes_eq f.occurrence.symbol symbol && (not (is_local symbol) || bytes_eq f.path path)

-- the occurrence has the definition role, the lowest bit of `symbol_roles`
abbrev pub is_definition : OccurrenceModel → Bool
is_definition o = cast_unsigned w32 o.symbol_roles % 2 == 1

-- a location: a path with a span
pub record LocationModel : Type 0 where
  pub path : List ℕ
  pub span : Span

-- a location with the bytes of its path
abbrev pub location_model : Place → LocationModel
location_model p = record { path = p.path.now; span = record { start = p.start; end = p.end } }

-- the location of a span, if there is one, in a document of this path
abbrev pub location_at : List ℕ → Option Span → List LocationModel
location_at path None = []
location_at path (Some span) = record { path = path; span = span } ∷ []

-- the location of an occurrence, if its range denotes a span
abbrev pub location_of : PlacedOccurrence → List LocationModel
location_of f = location_at f.path (span_of f.occurrence.range)

-- the locations of the occurrences whose ranges denote spans, in their order
abbrev pub locations_of : List PlacedOccurrence → List LocationModel
locations_of found = flat_map location_of found

-- the locations where the symbol is defined, in the index's order
abbrev pub definitions : IndexModel → List ℕ → List ℕ → List LocationModel
definitions index path symbol = locations_of (filter (λ f. matches_lookup path symbol f && is_definition f.occurrence) (all_occurrences index))

-- the locations where the symbol occurs and isn't defined, in the index's order
abbrev pub references : IndexModel → List ℕ → List ℕ → List LocationModel
references index path symbol = locations_of (filter (λ f. matches_lookup path symbol f && not (is_definition f.occurrence)) (all_occurrences index))

-- the result of a store's lookup of a symbol: these locations, `NoDocument` if no document has the path, or `Memory`, of which nothing is
-- claimed
abbrev pub AreLocationsResult : IndexModel → List ℕ → List LocationModel → Result (List LocationModel) StoreFault → Type 0
AreLocationsResult index path wanted (Ok locations) = HasPath index path × (locations ≡ wanted)
AreLocationsResult index path wanted (Err faults.NoDocument) = HasPath index path → ⊥
AreLocationsResult index path wanted (Err faults.Memory) = Unit {0}
