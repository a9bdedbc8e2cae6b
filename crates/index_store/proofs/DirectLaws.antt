-- A walk over the records finds what the definitions state of all occurrences of the index.
use Rattle.std.proofs.Common.{◌≡◌, ℕ, zero, suc, Bool, true, false, not, List, [], ◌∷◌, ◌++◌, length, take, map, fold, Option, None, Result, Ok, Err, refl, sym, ap, ap₂, ◌∙◌, arith, inl, inr}
use Rattle.std.specs.Prelude.{◌||◌, ◌↔◌, Contains, IfOk, filter, option_map, if◌then◌else◌}
use Rattle.std.specs.List.{AllByRecursion, flat_map}
use Rattle.std.specs.Str.{IsUtf8, bytes_eq}
use Rattle.std.proofs.lemmas.Bool.{cases_Bool, false≢true}
use Rattle.std.proofs.lemmas.List.{append-nil, length-map, take-map}
use Rattle.std.proofs.Math.Seq.{take-append_seam}
use Rattle.std.proofs.lemmas.Grind.{flat_map-append}
use Rattle.proto_wire.specs.Messages.{field_values, nested_records}
use Rattle.proto_wire.specs.Readings.{payload_records}
use Rattle.proto_wire.specs.Records.{PayloadRecord}
use Rattle.proto_wire.specs.declared.fault.WireFault.{WireFault}
use Rattle.proto_wire.proofs.PieceReadings.{records_found}
use Rattle.scip_index.specs.Meaning.{document_of, index_of, Means}
use Rattle.scip_index.specs.Plain.{DocumentModel, IndexModel, OccurrenceModel}
use Rattle.scip_index.proofs.OutcomeLaws.{no_fault}
use Rattle.scip_index.proofs.CheckedLaws.{paths_are_texts}
use Rattle.index_store.specs.declared.location.Position.{Position}
use Rattle.index_store.specs.declared.span.Span.{Span}
use Rattle.index_store.specs.TableLookup.{nearer_if_covering, locations_by_role}
use Rattle.index_store.specs.Direct.{covering_of, has_document, nearest_at, pair_span, location_of_symbol, locations_in_document, HaveTextPaths}
use Rattle.index_store.specs.Queries.{PlacedOccurrence, HasPath, IsSymbolAt, LocationModel, all_occurrences, occurrence_at, occurrences_in, is_definition, is_local, location_of, locations_of}
use Rattle.index_store.specs.Stores.{covering_in}
use Rattle.index_store.proofs.AskedLemmas.{found_symbol, is_wanted}
use Rattle.index_store.proofs.TableLemmas.{bytes_same, same_bytes}

-- ---- one occurrence

-- ---- the nearest

covered : (path here : List ℕ) (occurrences : List OccurrenceModel) → bytes_eq path here ≡ true → flat_map (covering_in path) (map (occurrence_at here) occurrences) ≡ flat_map covering_of occurrences
covered path here [] e = refl
covered path here (o ∷ occurrences) e = rw e (ap (λ (xs : List (Span × List ℕ)). covering_of o ++ xs) (covered path here occurrences e))

uncovered : (path here : List ℕ) (occurrences : List OccurrenceModel) → bytes_eq path here ≡ false → flat_map (covering_in path) (map (occurrence_at here) occurrences) ≡ []
uncovered path here [] e = refl
uncovered path here (o ∷ occurrences) e = rw e (uncovered path here occurrences e)

fold_append : {A B : Type 0} (f : A → B → A) (start : A) (xs ys : List B) → fold f start (xs ++ ys) ≡ fold f (fold f start xs) ys
fold_append f start [] ys = refl
fold_append f start (x ∷ xs) ys = fold_append f (f start x) xs ys

flipped : (a b : List ℕ) (answer : Bool) → bytes_eq a b ≡ answer → bytes_eq b a ≡ answer
flipped a b true e = bytes_same b a (sym (same_bytes a b e))
flipped a b false e = elim (cases_Bool (bytes_eq b a)) [
  | inl same ↦ absurd (false≢true (sym e ∙ bytes_same a b (sym (same_bytes b a same))))
  | inr apart ↦ apart
]

one_document : (path : List ℕ) (at : Position) (best : Option (Span × List ℕ)) (d : DocumentModel) → nearest_at path at best d ≡ fold (nearer_if_covering pair_span at) best (flat_map (covering_in path) (occurrences_in d))
one_document path at best d = elim (cases_Bool (bytes_eq d.relative_path path)) [
  | inl here ↦ rw here (ap (fold (nearer_if_covering pair_span at) best) (sym (covered path d.relative_path d.occurrences (flipped d.relative_path path true here))))
  | inr other ↦ rw other (ap (fold (nearer_if_covering pair_span at) best) (sym (uncovered path d.relative_path d.occurrences (flipped d.relative_path path false other))))
]

pub all_documents : (path : List ℕ) (at : Position) (best : Option (Span × List ℕ)) (documents : List DocumentModel) → fold (nearest_at path at) best documents ≡ fold (nearer_if_covering pair_span at) best (flat_map (covering_in path) (flat_map occurrences_in documents))
all_documents path at best [] = refl
all_documents path at best (d ∷ documents) =
    ap (λ (b : Option (Span × List ℕ)). fold (nearest_at path at) b documents) (one_document path at best d)
    ∙ all_documents path at (fold (nearer_if_covering pair_span at) best (flat_map (covering_in path) (occurrences_in d))) documents
    ∙ sym (fold_append (nearer_if_covering pair_span at) best (flat_map (covering_in path) (occurrences_in d)) (flat_map (covering_in path) (flat_map occurrences_in documents)))
    ∙ ap (fold (nearer_if_covering pair_span at) best) (sym (flat_map-append (covering_in path) (occurrences_in d) (flat_map occurrences_in documents)))

-- ---- the index that the bytes mean

pub has_it : (path : List ℕ) (documents : List DocumentModel) → has_document path documents ≡ true → Contains (map (λ d. d.relative_path) documents) path
has_it path [] e = absurd cc
has_it path (d ∷ documents) e = elim (cases_Bool (bytes_eq d.relative_path path)) [
  | inl here ↦ (0, omega arith, same_bytes d.relative_path path here)
  | inr other ↦ let behind = has_it path documents (rw other at e) in (suc behind.0, omega (arith, behind.1), behind.2)
]

pub lacks_it : (path : List ℕ) (documents : List DocumentModel) → has_document path documents ≡ false → Contains (map (λ d. d.relative_path) documents) path → ⊥
lacks_it path [] e (k, l, is) = absurd (omega (arith, l))
lacks_it path (d ∷ documents) e (zero, l, is) = let no : true ≡ false = rw (bytes_same d.relative_path path is) at e in absurd cc
lacks_it path (d ∷ documents) e (suc k, l, is) = elim (cases_Bool (bytes_eq d.relative_path path)) [
  | inl here ↦ let no : true ≡ false = rw here at e in absurd cc
  | inr other ↦ lacks_it path documents (rw other at e) (k, omega (arith, l), is)
]

pub documents_said : (bytes : List ℕ) (index : IndexModel) → Means bytes index → index.documents ≡ map document_of (field_values 2 nested_records (payload_records 0 bytes).0)
documents_said bytes index means =
    ap (λ (i : IndexModel). i.documents) means.index_is ∙ sym (ap (λ (x : List PayloadRecord × Option WireFault). (index_of x.0).documents) (records_found 0 bytes means.pieces means.are_records))

pub all_map : {A B : Type 0} (P : B → Type 0) (f : A → B) (xs : List A) → AllByRecursion (λ x. P (f x)) xs → AllByRecursion P (map f xs)
all_map P f [] h = tt
all_map P f (x ∷ xs) h = (h.0, all_map P f xs h.1)

pub paths_text : (bytes : List ℕ) (index : IndexModel) → Means bytes index → HaveTextPaths (map document_of (field_values 2 nested_records (payload_records 0 bytes).0))
paths_text bytes index means = all_map (λ (d : DocumentModel). IsUtf8 d.relative_path) document_of (field_values 2 nested_records (payload_records 0 bytes).0) (paths_are_texts bytes (no_fault bytes index means))

-- what a search of the bytes finds
pub path_there : (bytes path : List ℕ) (index : IndexModel) → Means bytes index → has_document path (map document_of (field_values 2 nested_records (payload_records 0 bytes).0)) ≡ true → HasPath index path
path_there bytes path index means e = rw (documents_said bytes index means) (has_it path (map document_of (field_values 2 nested_records (payload_records 0 bytes).0)) e)

pub path_lacking : (bytes path : List ℕ) (index : IndexModel) → Means bytes index → has_document path (map document_of (field_values 2 nested_records (payload_records 0 bytes).0)) ≡ false → HasPath index path → ⊥
path_lacking bytes path index means e has = lacks_it path (map document_of (field_values 2 nested_records (payload_records 0 bytes).0)) e (rw (documents_said bytes index means) at has)

-- a search by the path alone
pub path_exactly : (bytes path : List ℕ) (index : IndexModel) → Means bytes index → (has_document path (map document_of (field_values 2 nested_records (payload_records 0 bytes).0)) ≡ true) ↔ HasPath index path
path_exactly bytes path index means = (
  path_there bytes path index means,
  λ has. elim (cases_Bool (has_document path (map document_of (field_values 2 nested_records (payload_records 0 bytes).0)))) [
    | inl in_range ↦ in_range
    | inr lacks ↦ absurd (path_lacking bytes path index means lacks has)
  ],
)

pub symbol_there : (bytes path : List ℕ) (at : Position) (best : Option (Span × List ℕ)) (index : IndexModel) → Means bytes index → best ≡ fold (nearest_at path at) None (map document_of (field_values 2 nested_records (payload_records 0 bytes).0))
    → IsSymbolAt (all_occurrences index) path at (option_map (λ x. x.1) best)
symbol_there bytes path at best index means e =
    let documents = map document_of (field_values 2 nested_records (payload_records 0 bytes).0) in
    rw (documents_said bytes index means, e, all_documents path at None documents) (found_symbol path at (flat_map occurrences_in documents))

-- ---- locations

pub filter_append : (keep : PlacedOccurrence → Bool) (xs ys : List PlacedOccurrence) → filter keep (xs ++ ys) ≡ filter keep xs ++ filter keep ys
filter_append keep [] ys = refl
filter_append keep (x ∷ xs) ys = elim (cases_Bool (keep x)) [
  | inl retained ↦ rw (retained, filter_append keep xs ys) refl
  | inr gone ↦ rw (gone, filter_append keep xs ys) refl
]

-- of a document that is inspected
wanted_here : (defines : Bool) (path symbol here : List ℕ) (occurrences : List OccurrenceModel) → (not (is_local symbol) || bytes_eq here path) ≡ true
    → locations_of (filter (is_wanted defines path symbol) (map (occurrence_at here) occurrences)) ≡ flat_map (location_of_symbol defines symbol here) occurrences
wanted_here defines path symbol here [] looked = refl
wanted_here defines path symbol here (o ∷ occurrences) looked = elim (cases_Bool (bytes_eq o.symbol symbol)) [
  | inr other ↦ rw other (wanted_here defines path symbol here occurrences looked)
  | inl same ↦ elim (cases_Bool (if defines then is_definition o else not (is_definition o))) [
    | inl requested ↦ rw (same, looked, requested) (ap (λ (xs : List LocationModel). location_of (occurrence_at here o) ++ xs) (wanted_here defines path symbol here occurrences looked))
    | inr not_asked ↦ rw (same, looked, not_asked) (wanted_here defines path symbol here occurrences looked)
  ]
]

-- and of one that isn't
wanted_nowhere : (defines : Bool) (path symbol here : List ℕ) (occurrences : List OccurrenceModel) → (not (is_local symbol) || bytes_eq here path) ≡ false
    → locations_of (filter (is_wanted defines path symbol) (map (occurrence_at here) occurrences)) ≡ []
wanted_nowhere defines path symbol here [] past = refl
wanted_nowhere defines path symbol here (o ∷ occurrences) past = elim (cases_Bool (bytes_eq o.symbol symbol)) [
  | inr other ↦ rw other (wanted_nowhere defines path symbol here occurrences past)
  | inl same ↦ rw (same, past) (wanted_nowhere defines path symbol here occurrences past)
]

document_places : (defines : Bool) (path symbol : List ℕ) (d : DocumentModel) → locations_in_document defines (is_local symbol) path symbol d ≡ locations_of (filter (is_wanted defines path symbol) (occurrences_in d))
document_places defines path symbol d = elim (cases_Bool (not (is_local symbol) || bytes_eq d.relative_path path)) [
  | inl looked ↦ rw looked (sym (wanted_here defines path symbol d.relative_path d.occurrences looked))
  | inr past ↦ rw past (sym (wanted_nowhere defines path symbol d.relative_path d.occurrences past))
]

all_places : (defines : Bool) (path symbol : List ℕ) (documents : List DocumentModel) → flat_map (locations_in_document defines (is_local symbol) path symbol) documents ≡ locations_of (filter (is_wanted defines path symbol) (flat_map occurrences_in documents))
all_places defines path symbol [] = refl
all_places defines path symbol (d ∷ documents) =
    ap₂ (λ (xs ys : List LocationModel). xs ++ ys) (document_places defines path symbol d) (all_places defines path symbol documents)
    ∙ sym (flat_map-append location_of (filter (is_wanted defines path symbol) (occurrences_in d)) (filter (is_wanted defines path symbol) (flat_map occurrences_in documents)))
    ∙ ap locations_of (sym (filter_append (is_wanted defines path symbol) (occurrences_in d) (flat_map occurrences_in documents)))

pub places_there : (defines : Bool) (bytes path symbol : List ℕ) (index : IndexModel) → Means bytes index
    → flat_map (locations_in_document defines (is_local symbol) path symbol) (map document_of (field_values 2 nested_records (payload_records 0 bytes).0)) ≡ locations_by_role defines index path symbol
places_there true bytes path symbol index means = rw (documents_said bytes index means) (all_places true path symbol (map document_of (field_values 2 nested_records (payload_records 0 bytes).0)))
places_there false bytes path symbol index means = rw (documents_said bytes index means) (all_places false path symbol (map document_of (field_values 2 nested_records (payload_records 0 bytes).0)))

pub if_ok : {X E : Type 0} (result : Result X E) (P Q : X → Type 0) → IfOk result P → ((x : X) → P x → Q x) → IfOk result Q
if_ok (Ok x) P Q h go = go x h
if_ok (Err e) P Q h go = tt

-- the locations of a document that has this path, if it is inspected
pub in_document : (defines local : Bool) (path symbol first : List ℕ) (d : DocumentModel) → bytes_eq d.relative_path first ≡ true → (not local || bytes_eq first path) ≡ true
    → flat_map (location_of_symbol defines symbol first) d.occurrences ≡ locations_in_document defines local path symbol d
in_document defines local path symbol first d e looked = rw (same_bytes d.relative_path first e, looked) refl

-- what was added is cut off again
pub cut_off : {A B : Type 0} (view : A → B) (old more : List A) (added : List B) → map view more ≡ map view old ++ added → map view (take (length old) more) ≡ map view old ++ []
cut_off view old more added e =
    sym (take-map view (length old) more) ∙ ap (take (length old)) e ∙ ap (λ (n : ℕ). take n (map view old ++ added)) (sym (length-map old view)) ∙ take-append_seam (map view old) added ∙ sym (append-nil (map view old))

pub not_not : (b : Bool) → not b ≡ false → b ≡ true
not_not true e = refl
not_not false e = absurd cc

-- a document is inspected where it has the path, or any has
pub looked_by_path : (local has : Bool) → has ≡ true → (not local || has) ≡ true
looked_by_path true has e = e
looked_by_path false has e = refl

pub looked_at_all : (local has : Bool) → local ≡ false → (not local || has) ≡ true
looked_at_all local has e = rw e refl
