-- What the private functions of a store return.
use Rattle.std.specs.Prelude.{Bool, true, false, not, ◌&&◌, ◌||◌, ℕ, List, [], ◌∷◌, fold, Option, Some, None, if◌then◌else◌}
use Rattle.std.specs.Str.{bytes_eq}
use Rattle.scip_index.specs.Plain.{IndexModel}
use Rattle.index_store.specs.declared.location.Position.{Position}
use Rattle.index_store.specs.declared.row.PathEntry.{PathEntry}
use Rattle.index_store.specs.declared.span.Span.{Span}
use Rattle.index_store.specs.Queries.{LocationModel, definitions, references}
use Rattle.index_store.specs.Spans.{is_in_span, is_nearer}
use Rattle.index_store.specs.Stores.{MentionModel}

-- the nearer of two elements that cover a position, `other` if they are equally near; `row` if there is no other element
abbrev pub nearer_of : {A : Type 0} → (A → Span) → Option A → A → A
nearer_of span None row = row
nearer_of span (Some other) row = if is_nearer (span row) (span other) then row else other

-- the nearer of best and row if row covers the position, otherwise best; best if both are equally near, row if there is no best
abbrev pub nearer_if_covering : {A : Type 0} → (A → Span) → Position → Option A → A → Option A
nearer_if_covering span at best row = if is_in_span at (span row) then Some (nearer_of span best row) else best

-- the span of an entry of a path
abbrev pub covering_span : PathEntry → Span
covering_span c = c.span

-- the nearest of the entries that cover the position; of several equally near ones the first
abbrev pub nearest_entry : List PathEntry → Position → Option PathEntry
nearest_entry rows at = fold (nearer_if_covering covering_span at) None rows

-- whether the entry has the definition role if and only if `defines` is true and, if `local` is true, is in a document with the path
abbrev pub is_requested : Bool → Bool → List ℕ → MentionModel → Bool
is_requested defines local path m = (if defines then m.defines else not m.defines) && (not local || bytes_eq m.path path)

-- the location of an entry; empty if the entry doesn't match the lookup
abbrev pub requested_location : Bool → Bool → List ℕ → MentionModel → List LocationModel
requested_location defines local path m = if is_requested defines local path m then record { path = m.path; span = m.span } ∷ [] else []

-- the locations of a symbol's definitions if the flag is true, and of its references if not
abbrev pub locations_by_role : Bool → IndexModel → List ℕ → List ℕ → List LocationModel
locations_by_role true index path symbol = definitions index path symbol
locations_by_role false index path symbol = references index path symbol
