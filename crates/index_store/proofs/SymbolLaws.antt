-- A walk over the records lists the definitions among all occurrences of the index.
use Rattle.std.proofs.Common.{◌≡◌, ℕ, Bool, true, false, not, List, [], ◌∷◌, ◌++◌, map, Option, Some, None, refl, sym, ap, ap₂, ◌∙◌, append_assoc, subst, inl, inr}
use Rattle.std.specs.Prelude.{◌&&◌, ◌||◌, filter, option_map, if◌then◌else◌}
use Rattle.std.specs.List.{AllByRecursion, flat_map}
use Rattle.std.specs.Option.{is_some}
use Rattle.std.specs.Str.{IsUtf8, bytes_eq}
use Rattle.std.proofs.lemmas.Bool.{cases_Bool}
use Rattle.std.proofs.lemmas.Grind.{flat_map-append}
use Rattle.proto_wire.specs.Messages.{field_values, nested_records}
use Rattle.proto_wire.specs.Readings.{payload_records}
use Rattle.proto_wire.specs.Records.{PayloadRecord}
use Rattle.scip_index.specs.Meaning.{document_of, occurrence_of, Means}
use Rattle.scip_index.specs.Plain.{DocumentModel, IndexModel, OccurrenceModel}
use Rattle.scip_index.proofs.OutcomeLaws.{no_fault}
use Rattle.scip_index.proofs.CheckedLaws.{all_append, paths_are_texts, symbols_are_texts, HasPathText, HaveSymbolTexts}
use Rattle.texts.specs.Places.{Style}
use Rattle.index_store.specs.declared.span.Span.{Span}
use Rattle.index_store.specs.Direct.{covering_of}
use Rattle.index_store.specs.Queries.{PlacedOccurrence, IsSymbolAt, all_occurrences, occurrence_at, occurrences_in, is_definition, is_local, location_at}
use Rattle.index_store.specs.declared.location.Position.{Position}
use Rattle.index_store.specs.Spans.{span_of}
use Rattle.index_store.specs.Stores.{span_with_symbol}
use Rattle.index_store.specs.Symbols.{defined_at, definition_line, definition_lines, definition_of, definitions_listed, is_requested, is_listed, line_at, lines_in, lines_of_document, lines_of_occurrence, spans_listed, AreTextDocuments, ListedDefinition}
use Rattle.index_store.proofs.DirectLaws.{all_map, documents_said, filter_append}

-- ---- texts

both_texts : (pieces : List (List PayloadRecord)) → AllByRecursion HasPathText pieces → AllByRecursion HaveSymbolTexts pieces → AreTextDocuments (map document_of pieces)
both_texts [] paths symbols = tt
both_texts (ps ∷ pieces) paths symbols =
    ((paths.0, all_map (λ (o : OccurrenceModel). IsUtf8 o.symbol) occurrence_of (field_values 2 nested_records ps) symbols.0), both_texts pieces paths.1 symbols.1)

pub texts_there : (bytes : List ℕ) (index : IndexModel) → Means bytes index → AreTextDocuments (map document_of (field_values 2 nested_records (payload_records 0 bytes).0))
texts_there bytes index means =
    let clean = no_fault bytes index means in
    both_texts (field_values 2 nested_records (payload_records 0 bytes).0) (paths_are_texts bytes clean) (symbols_are_texts bytes clean)

-- the symbols of all occurrences are UTF-8
abbrev HasSymbol : PlacedOccurrence → Type 0
HasSymbol f = IsUtf8 f.occurrence.symbol

found_texts : (documents : List DocumentModel) → AreTextDocuments documents → AllByRecursion HasSymbol (flat_map occurrences_in documents)
found_texts [] texts = tt
found_texts (d ∷ documents) texts = all_append HasSymbol (occurrences_in d) (flat_map occurrences_in documents) (all_map HasSymbol (occurrence_at d.relative_path) d.occurrences texts.0.1) (found_texts documents texts.1)

among_all : (before after : List PlacedOccurrence) (f : PlacedOccurrence) → AllByRecursion HasSymbol (before ++ f ∷ after) → HasSymbol f
among_all [] after f all = all.0
among_all (g ∷ before) after f all = among_all before after f all.1

-- so is the one at a position
pub symbol_at_text : (bytes path symbol : List ℕ) (at : Position) (index : IndexModel) → Means bytes index → IsSymbolAt (all_occurrences index) path at (Some symbol) → IsUtf8 symbol
symbol_at_text bytes path symbol at index means (f, span, nearest, is) =
    let texts : AreTextDocuments index.documents = rw (documents_said bytes index means) (texts_there bytes index means) in
    let all = subst (λ (fs : List PlacedOccurrence). AllByRecursion HasSymbol fs) nearest.among (found_texts index.documents texts) in
    subst IsUtf8 is (among_all nearest.before nearest.after f all)

-- ---- one occurrence

covered_symbol : (span : Option Span) (symbol : List ℕ) (x : Span × List ℕ) → x ∷ [] ≡ span_with_symbol span symbol → x.1 ≡ symbol
covered_symbol None symbol x e = absurd cc
covered_symbol (Some span) [] x e = absurd cc
covered_symbol (Some span) (b ∷ symbol) x e = cc

-- the symbol that is listed is the occurrence's
pub listed_symbol : (with_local : Bool) (o : OccurrenceModel) (x : Span × List ℕ) → x ∷ [] ≡ spans_listed with_local o → x.1 ≡ o.symbol
listed_symbol with_local o x e = elim (cases_Bool (is_definition o && (with_local || not (is_local o.symbol)))) [
  | inl listed ↦ covered_symbol (span_of o.range) o.symbol x (rw listed at e)
  | inr passed ↦ let no : x ∷ [] ≡ [] = rw passed at e in absurd cc
]

placed_line : (style : Style) (path symbol : List ℕ) (span : Option Span) → flat_map (line_at style path) (span_with_symbol span symbol) ≡ definition_lines style (if not (bytes_eq symbol []) then map (defined_at symbol) (location_at path span) else [])
placed_line style path [] None = refl
placed_line style path [] (Some span) = refl
placed_line style path (b ∷ symbol) None = refl
placed_line style path (b ∷ symbol) (Some span) = refl

guarded : (style : Style) (defines named retained : Bool) (path : List ℕ) (spans : List (Span × List ℕ)) (definitions : List ListedDefinition) → flat_map (line_at style path) spans ≡ definition_lines style (if named then definitions else [])
    → flat_map (line_at style path) (if defines && retained then spans else []) ≡ definition_lines style (if (defines && named) && retained then definitions else [])
guarded style true true true path spans definitions e = e
guarded style true true false path spans definitions e = refl
guarded style true false true path spans definitions e = e
guarded style true false false path spans definitions e = refl
guarded style false named retained path spans definitions e = refl

one_line : (style : Style) (requested : Option (List ℕ)) (path : List ℕ) (o : OccurrenceModel) → is_requested requested path ≡ true
    → lines_of_occurrence style (is_some requested) path o ≡ definition_lines style (if is_listed requested (occurrence_at path o) then definition_of (occurrence_at path o) else [])
one_line style None path o looked = guarded style (is_definition o) (not (bytes_eq o.symbol [])) (not (is_local o.symbol)) path (covering_of o) (definition_of (occurrence_at path o)) (placed_line style path o.symbol (span_of o.range))
one_line style (Some requested) path o looked = rw looked (guarded style (is_definition o) (not (bytes_eq o.symbol [])) true path (covering_of o) (definition_of (occurrence_at path o)) (placed_line style path o.symbol (span_of o.range)))

-- ---- one document

listed_here : (style : Style) (requested : Option (List ℕ)) (path : List ℕ) (occurrences : List OccurrenceModel) → is_requested requested path ≡ true
    → lines_in style (is_some requested) path occurrences ≡ definition_lines style (flat_map definition_of (filter (is_listed requested) (map (occurrence_at path) occurrences)))
listed_here style requested path [] looked = refl
listed_here style requested path (o ∷ occurrences) looked =
    let behind = flat_map definition_of (filter (is_listed requested) (map (occurrence_at path) occurrences)) in
    let one = one_line style requested path o looked in
    elim (cases_Bool (is_listed requested (occurrence_at path o))) [
      | inl listed ↦ let line : lines_of_occurrence style (is_some requested) path o ≡ definition_lines style (definition_of (occurrence_at path o)) = rw listed at one in
          rw listed (ap₂ (λ (xs ys : List ℕ). xs ++ ys) line (listed_here style requested path occurrences looked) ∙ sym (flat_map-append (definition_line style) (definition_of (occurrence_at path o)) behind))
      | inr passed ↦ let none : lines_of_occurrence style (is_some requested) path o ≡ [] = rw passed at one in
          rw passed (ap₂ (λ (xs ys : List ℕ). xs ++ ys) none (listed_here style requested path occurrences looked))
    ]

never : (x y : Bool) → y ≡ false → (x && y) ≡ false
never true y e = e
never false y e = refl

unlisted : (requested : Option (List ℕ)) (path : List ℕ) (o : OccurrenceModel) → is_requested requested path ≡ false → is_listed requested (occurrence_at path o) ≡ false
unlisted None path o past = absurd cc
unlisted (Some requested) path o past = never (is_definition o && not (bytes_eq o.symbol [])) (bytes_eq path requested) past

listed_nowhere : (style : Style) (requested : Option (List ℕ)) (path : List ℕ) (occurrences : List OccurrenceModel) → is_requested requested path ≡ false
    → definition_lines style (flat_map definition_of (filter (is_listed requested) (map (occurrence_at path) occurrences))) ≡ []
listed_nowhere style requested path [] past = refl
listed_nowhere style requested path (o ∷ occurrences) past = rw (unlisted requested path o past) (listed_nowhere style requested path occurrences past)

document_lines : (style : Style) (requested : Option (List ℕ)) (d : DocumentModel) → lines_of_document style requested d ≡ definition_lines style (flat_map definition_of (filter (is_listed requested) (occurrences_in d)))
document_lines style requested d = elim (cases_Bool (is_requested requested d.relative_path)) [
  | inl looked ↦ rw looked (listed_here style requested d.relative_path d.occurrences looked)
  | inr past ↦ rw past (sym (listed_nowhere style requested d.relative_path d.occurrences past))
]

-- ---- the index that the bytes mean

all_lines : (style : Style) (requested : Option (List ℕ)) (documents : List DocumentModel) → flat_map (lines_of_document style requested) documents ≡ definition_lines style (flat_map definition_of (filter (is_listed requested) (flat_map occurrences_in documents)))
all_lines style requested [] = refl
all_lines style requested (d ∷ documents) =
    let here = filter (is_listed requested) (occurrences_in d) in
    let behind = filter (is_listed requested) (flat_map occurrences_in documents) in
    ap₂ (λ (xs ys : List ℕ). xs ++ ys) (document_lines style requested d) (all_lines style requested documents)
    ∙ sym (flat_map-append (definition_line style) (flat_map definition_of here) (flat_map definition_of behind))
    ∙ ap (definition_lines style) (sym (flat_map-append definition_of here behind))
    ∙ ap (λ (fs : List PlacedOccurrence). definition_lines style (flat_map definition_of fs)) (sym (filter_append (is_listed requested) (occurrences_in d) (flat_map occurrences_in documents)))

pub listed_there : (style : Style) (requested : Option (List ℕ)) (bytes : List ℕ) (index : IndexModel) → Means bytes index
    → flat_map (lines_of_document style requested) (map document_of (field_values 2 nested_records (payload_records 0 bytes).0)) ≡ definition_lines style (definitions_listed index requested)
listed_there style requested bytes index means = rw (documents_said bytes index means) (all_lines style requested (map document_of (field_values 2 nested_records (payload_records 0 bytes).0)))

-- ---- lines so far

-- of all lines those so far and the next ones stand in front of the others
pub lines_behind : (all so_far left next more : List ℕ) → all ≡ so_far ++ left → left ≡ next ++ more → all ≡ (so_far ++ next) ++ more
lines_behind all so_far left next more e f = e ∙ ap (λ (t : List ℕ). so_far ++ t) f ∙ sym (append_assoc so_far next more)

is_some_seen : {A : Type 0} (seen : A → List ℕ) (requested : Option A) → is_some (option_map seen requested) ≡ is_some requested
is_some_seen seen None = refl
is_some_seen seen (Some path) = refl

-- the lines of a document that is asked for
pub lines_asked : (style : Style) {A : Type 0} (seen : A → List ℕ) (requested : Option A) (path : List ℕ) (d : DocumentModel) → d.relative_path ≡ path → is_requested (option_map seen requested) path ≡ true
    → lines_in style (is_some requested) path d.occurrences ≡ lines_of_document style (option_map seen requested) d
lines_asked style seen requested path d here looked = rw (here, looked, is_some_seen seen requested) refl
