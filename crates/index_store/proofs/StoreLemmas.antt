-- The content of a store's tables after one more path, symbol or occurrence.
use Rattle.std.proofs.Common.{◌≡◌, ℕ, suc, ◌+◌, ◌<◌, Bool, true, false, eqb, List, [], ◌∷◌, ◌++◌, length, length-append, get_or, set, map, take, Some, None, refl, sym, ap, ap₂, ◌∙◌, subst, arith, inl, inr, ⊎_elim}
use Rattle.std.specs.Prelude.{◌↔◌, All, Contains, if◌then◌else◌}
use Rattle.std.specs.List.{flat_map}
use Rattle.std.specs.Str.{bytes_eq}
use Rattle.std.proofs.lemmas.Bool.{cases_Bool, eqb-true}
use Rattle.std.proofs.lemmas.Grind.{flat_map-append}
use Rattle.std.proofs.lemmas.List.{append-nil, append_assoc, length-set, map-append, map_more}
use Rattle.std.proofs.lemmas.List.Elements.{All-append, Contains-append_left, Contains-push, Contains-push_cases}
use Rattle.index_store.specs.declared.row.PathEntry.{PathEntry}
use Rattle.index_store.specs.declared.row.SymbolEntry.{SymbolEntry}
use Rattle.index_store.specs.declared.span.Span.{Span}
use Rattle.scip_index.specs.declared.index.Document.{Document}
use Rattle.scip_index.specs.declared.index.Occurrence.{Occurrence}
use Rattle.scip_index.specs.Plain.{DocumentModel, document_model, occurrence_model}
use Rattle.index_store.specs.Queries.{PlacedOccurrence, occurrence_at, occurrences_in, is_definition}
use Rattle.index_store.specs.Spans.{span_of}
use Rattle.index_store.specs.Stores.{AreComplete, IsMentionOf, Keeps, MentionModel, Tables, span_with_symbol, covering_in, coverings_under, mention_of, mentions_under, paths_of, covering_model, mention_model}
use Rattle.index_store.specs.Tables.{IsInserted, text_index, rows_at, rows_under, text_at}
use Rattle.index_store.proofs.TableLemmas.{number_last, number_there, text_among, text_kept, under_added, under_pushed}

-- ---- a text more, after which all numbers stay

said_kept : (symbols more : List (List ℕ)) (rows : List PathEntry) → All (λ c. c.symbol < length symbols) rows → map (covering_model (symbols ++ more)) rows ≡ map (covering_model symbols) rows
said_kept symbols more [] h = refl
said_kept symbols more (c ∷ rows) h =
    ap₂ (λ (t : List ℕ) (cs : List (Span × List ℕ)). (c.span, t) ∷ cs) (text_kept symbols more c.symbol (h 0 c (omega arith))) (said_kept symbols more rows (λ k d l. h (suc k) d (omega (arith, l))))

told_kept : (paths more : List (List ℕ)) (rows : List SymbolEntry) → All (λ m. m.path < length paths) rows → map (mention_model (paths ++ more)) rows ≡ map (mention_model paths) rows
told_kept paths more [] h = refl
told_kept paths more (m ∷ rows) h =
    ap₂ (λ (t : List ℕ) (ms : List MentionModel). (let x : MentionModel = record { path = t; span = m.span; defines = m.defines } in x) ∷ ms)
    (text_kept paths more m.path (h 0 m (omega arith))) (told_kept paths more rows (λ k d l. h (suc k) d (omega (arith, l))))

below_more : (texts : List (List ℕ)) (text : List ℕ) (n : ℕ) → n < length texts → n < length (texts ++ text ∷ [])
below_more texts text n l = let e = length-append texts (text ∷ []) in omega (arith, e, l)

-- ---- a path more

-- the same members, with one that is there already
named_again : (texts paths : List (List ℕ)) (path : List ℕ) → ((p : List ℕ) → Contains texts p ↔ Contains paths p) → Contains texts path → (p : List ℕ) → Contains texts p ↔ Contains (paths ++ path ∷ []) p
named_again texts paths path h in_range p = (
  λ has. Contains-append_left paths (path ∷ []) p ((h p).0 has),
  λ has. ⊎_elim (λ (old : Contains paths p). (h p).1 old) (λ (is : path ≡ p). subst (Contains texts) is in_range) (Contains-push_cases paths path p has),
)

-- with one more on both sides
named_more : (texts paths : List (List ℕ)) (path : List ℕ) → ((p : List ℕ) → Contains texts p ↔ Contains paths p) → (p : List ℕ) → Contains (texts ++ path ∷ []) p ↔ Contains (paths ++ path ∷ []) p
named_more texts paths path h p = (
  λ has. ⊎_elim (λ (old : Contains texts p). Contains-append_left paths (path ∷ []) p ((h p).0 old)) (λ (is : path ≡ p). subst (Contains (paths ++ path ∷ [])) is (Contains-push paths path)) (Contains-push_cases texts path p has),
  λ has. ⊎_elim (λ (old : Contains paths p). Contains-append_left texts (path ∷ []) p ((h p).1 old)) (λ (is : path ≡ p). subst (Contains (texts ++ path ∷ [])) is (Contains-push texts path)) (Contains-push_cases paths path p has),
)

pub path_entered : (paths : List (List ℕ)) (found : List PlacedOccurrence) (t : Tables) (path : List ℕ) (ps : List (List ℕ)) (cs : List (List PathEntry)) (n : ℕ) → AreComplete t → Keeps paths found t → IsInserted t.paths t.coverings path ps cs n
    → Keeps (paths ++ path ∷ []) found (record { paths = ps; coverings = cs; symbols = t.symbols; mentions = t.mentions })
path_entered paths found t path ps cs n whole k (inl (at, same_texts, same_rows)) =
    rw (same_texts, same_rows) (record {
      named = named_again t.paths paths path k.named (text_among t.paths path n at);
      coverings = k.coverings;
      mentions = k.mentions;
      symbols_valid = k.symbols_valid;
      paths_valid = k.paths_valid;
    })
path_entered paths found t path ps cs n whole k (inr (new, one_text, one_row, last)) =
    rw (one_text, one_row) (record {
      named = named_more t.paths paths path k.named;
      coverings = λ p. ap (map (covering_model t.symbols)) (under_added t.paths t.coverings path p whole.of_paths) ∙ k.coverings p;
      mentions = λ s. told_kept t.paths (path ∷ []) (mentions_under t s) (k.paths_valid s) ∙ k.mentions s;
      symbols_valid = λ p. subst (All (λ c. c.symbol < length t.symbols)) (sym (under_added t.paths t.coverings path p whole.of_paths)) (k.symbols_valid p);
      paths_valid = λ s i d l. below_more t.paths path _ (k.paths_valid s i d l);
    })

-- ---- a symbol more

pub symbol_entered : (paths : List (List ℕ)) (found : List PlacedOccurrence) (t : Tables) (symbol : List ℕ) (ss : List (List ℕ)) (ms : List (List SymbolEntry)) (n : ℕ) → AreComplete t → Keeps paths found t → IsInserted t.symbols t.mentions symbol ss ms n
    → Keeps paths found (record { paths = t.paths; coverings = t.coverings; symbols = ss; mentions = ms })
symbol_entered paths found t symbol ss ms n whole k (inl (at, same_texts, same_rows)) =
    rw (same_texts, same_rows) (record { named = k.named; coverings = k.coverings; mentions = k.mentions; symbols_valid = k.symbols_valid; paths_valid = k.paths_valid })
symbol_entered paths found t symbol ss ms n whole k (inr (new, one_text, one_row, last)) =
    rw (one_text, one_row) (record {
      named = k.named;
      coverings = λ p. said_kept t.symbols (symbol ∷ []) (coverings_under t p) (k.symbols_valid p) ∙ k.coverings p;
      mentions = λ s. ap (map (mention_model t.paths)) (under_added t.symbols t.mentions symbol s whole.of_symbols) ∙ k.mentions s;
      symbols_valid = λ p i d l. below_more t.symbols symbol _ (k.symbols_valid p i d l);
      paths_valid = λ s. subst (All (λ m. m.path < length t.paths)) (sym (under_added t.symbols t.mentions symbol s whole.of_symbols)) (k.paths_valid s);
    })

-- ---- an occurrence more

-- what one more gives follows the others
more_rows : {A B : Type 0} (index_is : A → B) (gives : PlacedOccurrence → List B) (found : List PlacedOccurrence) (f : PlacedOccurrence) (old one new : List A) → new ≡ old ++ one → map index_is old ≡ flat_map gives found → map index_is one ≡ gives f → map index_is new ≡ flat_map gives (found ++ f ∷ [])
more_rows index_is gives found f old one new e h g =
    ap (map index_is) e ∙ map-append index_is old one ∙ ap₂ (λ xs ys. xs ++ ys) h (g ∙ sym (append-nil (gives f))) ∙ sym (flat_map-append gives found (f ∷ []))

all_more : {A : Type 0} (P : A → Type 0) (old one new : List A) → new ≡ old ++ one → All P old → All P one → All P new
all_more P old one new e h g = subst (All P) (sym e) (All-append P old one h g)

-- the row of one text alone
abbrev row_if : {A : Type 0} → Bool → A → List A
row_if in_range row = if in_range then row ∷ [] else []

all_if : {A : Type 0} (P : A → Type 0) (in_range : Bool) (row : A) → P row → All P (row_if in_range row)
all_if P true row h = λ k d l. (let z : k ≡ 0 = omega (arith, l) in rw z h)
all_if P false row h = λ k d l. absurd (omega (arith, l))

covering_one : (symbols : List (List ℕ)) (p : List ℕ) (f : PlacedOccurrence) (c : PathEntry) → span_of f.occurrence.range ≡ Some c.span → text_at symbols c.symbol ≡ f.occurrence.symbol → (b : ℕ) (more : List ℕ) → f.occurrence.symbol ≡ b ∷ more
    → map (covering_model symbols) (row_if (bytes_eq p f.path) c) ≡ covering_in p f
covering_one symbols p f c placed text b more is = elim (cases_Bool (bytes_eq p f.path)) [
  | inl here ↦ rw (here, placed, is) (ap (λ (t : List ℕ). (c.span, t) ∷ []) (text ∙ is))
  | inr apart ↦ rw apart refl
]

covering_none : (p : List ℕ) (f : PlacedOccurrence) → span_with_symbol (span_of f.occurrence.range) f.occurrence.symbol ≡ [] → [] ≡ covering_in p f
covering_none p f none = elim (cases_Bool (bytes_eq p f.path)) [
  | inl here ↦ rw here (sym none)
  | inr apart ↦ rw apart refl
]

mention_one : (paths : List (List ℕ)) (s : List ℕ) (f : PlacedOccurrence) (m : SymbolEntry) → span_of f.occurrence.range ≡ Some m.span → text_at paths m.path ≡ f.path → m.defines ≡ is_definition f.occurrence
    → map (mention_model paths) (row_if (bytes_eq s f.occurrence.symbol) m) ≡ mention_of s f
mention_one paths s f m placed text defines = elim (cases_Bool (bytes_eq s f.occurrence.symbol)) [
  | inl here ↦ rw (here, placed) (ap₂ (λ (t : List ℕ) (b : Bool). (let x : MentionModel = record { path = t; span = m.span; defines = b } in x) ∷ []) text defines)
  | inr apart ↦ rw apart refl
]

mention_none : (s : List ℕ) (f : PlacedOccurrence) → span_of f.occurrence.range ≡ None → [] ≡ mention_of s f
mention_none s f none = elim (cases_Bool (bytes_eq s f.occurrence.symbol)) [
  | inl here ↦ rw (here, none) refl
  | inr apart ↦ rw apart refl
]

-- an occurrence that is no location
pub passed_over : (paths : List (List ℕ)) (found : List PlacedOccurrence) (t : Tables) (f : PlacedOccurrence) → Keeps paths found t → span_of f.occurrence.range ≡ None → Keeps paths (found ++ f ∷ []) t
passed_over paths found t f k none = record {
  named = k.named;
  coverings = λ p. more_rows (covering_model t.symbols) (covering_in p) found f (coverings_under t p) [] (coverings_under t p) (sym (append-nil (coverings_under t p))) (k.coverings p) (covering_none p f (rw none refl));
  mentions = λ s. more_rows (mention_model t.paths) (mention_of s) found f (mentions_under t s) [] (mentions_under t s) (sym (append-nil (mentions_under t s))) (k.mentions s) (mention_none s f none);
  symbols_valid = k.symbols_valid;
  paths_valid = k.paths_valid;
}

abbrev pub mentions_with : Tables → ℕ → SymbolEntry → List (List SymbolEntry)
mentions_with t n m = set t.mentions n (rows_at t.mentions n ++ m ∷ [])

abbrev pub coverings_with : Tables → ℕ → PathEntry → List (List PathEntry)
coverings_with t n c = set t.coverings n (rows_at t.coverings n ++ c ∷ [])

module _ (paths : List (List ℕ)) (found : List PlacedOccurrence) (t : Tables) (f : PlacedOccurrence) (m : SymbolEntry) (symbol : ℕ) (whole : AreComplete t) (k : Keeps paths found t) (at_path : text_index t.paths f.path ≡ Some m.path) (at_symbol : text_index t.symbols f.occurrence.symbol ≡ Some symbol)
    (placed : span_of f.occurrence.range ≡ Some m.span) (defines : m.defines ≡ is_definition f.occurrence) where
  mentions_more : (s : List ℕ) → map (mention_model t.paths) (rows_under t.symbols (mentions_with t symbol m) s) ≡ flat_map (mention_of s) (found ++ f ∷ [])
  mentions_more s =
      more_rows (mention_model t.paths) (mention_of s) found f (mentions_under t s) (row_if (bytes_eq s f.occurrence.symbol) m) (rows_under t.symbols (mentions_with t symbol m) s)
      (under_pushed t.symbols t.mentions f.occurrence.symbol symbol m s whole.of_symbols at_symbol) (k.mentions s) (mention_one t.paths s f m placed (number_there t.paths f.path m.path at_path).1 defines)

  paths_more : (s : List ℕ) → All (λ (x : SymbolEntry). x.path < length t.paths) (rows_under t.symbols (mentions_with t symbol m) s)
  paths_more s =
      all_more (λ (x : SymbolEntry). x.path < length t.paths) (mentions_under t s) (row_if (bytes_eq s f.occurrence.symbol) m) (rows_under t.symbols (mentions_with t symbol m) s)
      (under_pushed t.symbols t.mentions f.occurrence.symbol symbol m s whole.of_symbols at_symbol) (k.paths_valid s) (all_if (λ (x : SymbolEntry). x.path < length t.paths) (bytes_eq s f.occurrence.symbol) m (number_there t.paths f.path m.path at_path).0)

  -- one without a symbol
  pub bare_kept : f.occurrence.symbol ≡ [] → Keeps paths (found ++ f ∷ []) (record { paths = t.paths; coverings = t.coverings; symbols = t.symbols; mentions = mentions_with t symbol m })
  bare_kept bare = record {
    named = k.named;
    coverings = λ p. more_rows (covering_model t.symbols) (covering_in p) found f (coverings_under t p) [] (coverings_under t p) (sym (append-nil (coverings_under t p))) (k.coverings p) (covering_none p f (rw (placed, bare) refl));
    mentions = mentions_more;
    symbols_valid = k.symbols_valid;
    paths_valid = paths_more;
  }

  -- one with a symbol
  pub whole_kept : (b : ℕ) (more : List ℕ) → f.occurrence.symbol ≡ b ∷ more → Keeps paths (found ++ f ∷ []) (record { paths = t.paths; coverings = coverings_with t m.path (record { span = m.span; symbol = symbol }); symbols = t.symbols; mentions = mentions_with t symbol m })
  whole_kept b more is =
      let c : PathEntry = record { span = m.span; symbol = symbol } in
      let here = number_there t.symbols f.occurrence.symbol symbol at_symbol in
      record {
        named = k.named;
        coverings = λ p.
            more_rows (covering_model t.symbols) (covering_in p) found f (coverings_under t p) (row_if (bytes_eq p f.path) c) (rows_under t.paths (coverings_with t m.path c) p)
            (under_pushed t.paths t.coverings f.path m.path c p whole.of_paths at_path) (k.coverings p) (covering_one t.symbols p f c placed here.1 b more is);
        mentions = mentions_more;
        symbols_valid = λ p.
            all_more (λ (x : PathEntry). x.symbol < length t.symbols) (coverings_under t p) (row_if (bytes_eq p f.path) c) (rows_under t.paths (coverings_with t m.path c) p)
            (under_pushed t.paths t.coverings f.path m.path c p whole.of_paths at_path) (k.symbols_valid p) (all_if (λ (x : PathEntry). x.symbol < length t.symbols) (bytes_eq p f.path) c here.0);
        paths_valid = paths_more;
      }

-- ---- what was entered

module _ {A : Type 0} (texts : List (List ℕ)) (rows : List (List A)) (text : List ℕ) (more_texts : List (List ℕ)) (more_rows : List (List A)) (n : ℕ) (long : length texts ≡ length rows) where
  pub entered_whole : IsInserted texts rows text more_texts more_rows n → length more_texts ≡ length more_rows
  entered_whole (inl (at, t, r)) = rw (t, r) long
  entered_whole (inr (new, t, r, last)) = rw (t, r) (let e = length-append texts (text ∷ []) in let f = length-append rows ([] ∷ []) in omega (arith, e, f, long))

  pub entered_number : IsInserted texts rows text more_texts more_rows n → text_index more_texts text ≡ Some n
  entered_number (inl (at, t, r)) = rw t at
  entered_number (inr (new, t, r, last)) = rw (t, last) (number_last texts text new)

  pub entered_within : IsInserted texts rows text more_texts more_rows n → n < length more_rows
  entered_within h = let l = (number_there more_texts text n (entered_number h)).0 in let e = entered_whole h in omega (arith, l, e)

pub whole_is : (text : List ℕ) → eqb (length text) 0 ≡ false → (b : ℕ) × (more : List ℕ) × (text ≡ b ∷ more)
whole_is [] e = absurd cc
whole_is (b ∷ more) e = (b, more, refl)

pub empty_is : (text : List ℕ) → eqb (length text) 0 ≡ true → text ≡ []
empty_is [] e = refl
empty_is (b ∷ more) e = absurd (let z = eqb-true (length (b ∷ more)) 0 e in omega (arith, z))

-- the symbol is entered, and then a mention of it
module _ (t : Tables) (symbol : List ℕ) (ss : List (List ℕ)) (ms : List (List SymbolEntry)) (n : ℕ) (m : SymbolEntry) (whole : AreComplete t) (entered : IsInserted t.symbols t.mentions symbol ss ms n) where
  whole_more : AreComplete (record { paths = t.paths; coverings = t.coverings; symbols = ss; mentions = ms })
  whole_more = record { of_paths = whole.of_paths; of_symbols = entered_whole t.symbols t.mentions symbol ss ms n whole.of_symbols entered }

  pub mentioned_within : n < length ms
  mentioned_within = entered_within t.symbols t.mentions symbol ss ms n whole.of_symbols entered

  pub bare_whole : AreComplete (record { paths = t.paths; coverings = t.coverings; symbols = ss; mentions = set ms n (rows_at ms n ++ m ∷ []) })
  bare_whole = record { of_paths = whole.of_paths; of_symbols = whole_more.of_symbols ∙ sym (length-set ms n (rows_at ms n ++ m ∷ [])) }

  pub covered_whole : (c : PathEntry) → AreComplete (record { paths = t.paths; coverings = set t.coverings m.path (rows_at t.coverings m.path ++ c ∷ []); symbols = ss; mentions = set ms n (rows_at ms n ++ m ∷ []) })
  covered_whole c = record { of_paths = whole.of_paths ∙ sym (length-set t.coverings m.path (rows_at t.coverings m.path ++ c ∷ [])); of_symbols = bare_whole.of_symbols }

  module _ (paths : List (List ℕ)) (found : List PlacedOccurrence) (f : PlacedOccurrence) (k : Keeps paths found t) (at : text_index t.paths f.path ≡ Some m.path) (is : IsMentionOf f symbol m) where
    kept_entered : Keeps paths found (record { paths = t.paths; coverings = t.coverings; symbols = ss; mentions = ms })
    kept_entered = symbol_entered paths found t symbol ss ms n whole k entered

    number_more : text_index ss f.occurrence.symbol ≡ Some n
    number_more = ap (text_index ss) is.named ∙ entered_number t.symbols t.mentions symbol ss ms n whole.of_symbols entered

    pub bare_mentioned : eqb (length symbol) 0 ≡ true → Keeps paths (found ++ f ∷ []) (record { paths = t.paths; coverings = t.coverings; symbols = ss; mentions = set ms n (rows_at ms n ++ m ∷ []) })
    bare_mentioned e =
        bare_kept paths found (record { paths = t.paths; coverings = t.coverings; symbols = ss; mentions = ms }) f m n whole_more kept_entered at number_more is.placed is.defines (is.named ∙ empty_is symbol e)

    pub whole_mentioned : eqb (length symbol) 0 ≡ false
        → Keeps paths (found ++ f ∷ []) (record { paths = t.paths; coverings = set t.coverings m.path (rows_at t.coverings m.path ++ (record { span = m.span; symbol = n }) ∷ []); symbols = ss; mentions = set ms n (rows_at ms n ++ m ∷ []) })
    whole_mentioned e =
        let w = whole_is symbol e in
        whole_kept paths found (record { paths = t.paths; coverings = t.coverings; symbols = ss; mentions = ms }) f m n whole_more kept_entered at number_more is.placed is.defines w.0 w.1 (is.named ∙ w.2)

-- ---- loops

-- the occurrences up to one, and that one
pub some_more : (found : List PlacedOccurrence) (name : List ℕ) (items : List Occurrence) (k : ℕ) (o : Occurrence) → k < length items → o ≡ get_or items k o
    → (found ++ map (occurrence_at name) (map occurrence_model (take k items))) ++ occurrence_at name (occurrence_model o) ∷ [] ≡ found ++ map (occurrence_at name) (map occurrence_model (take (k + 1) items))
some_more found name items k o l is =
    append_assoc found (map (occurrence_at name) (map occurrence_model (take k items))) (occurrence_at name (occurrence_model o) ∷ [])
    ∙ ap (λ (fs : List PlacedOccurrence). found ++ fs)
    (ap (λ (x : Occurrence). map (occurrence_at name) (map occurrence_model (take k items)) ++ occurrence_at name (occurrence_model x) ∷ []) is
    ∙ sym (ap (map (occurrence_at name)) (map_more occurrence_model items k o l) ∙ map-append (occurrence_at name) (map occurrence_model (take k items)) (occurrence_model (get_or items k o) ∷ [])))

pub documents_more : (items : List Document) (k : ℕ) (d : Document) → k < length items → d ≡ get_or items k d
    → (paths_of (map document_model (take k items)) ++ (document_model d).relative_path ∷ [] ≡ paths_of (map document_model (take (k + 1) items)))
    × (flat_map occurrences_in (map document_model (take k items)) ++ occurrences_in (document_model d) ≡ flat_map occurrences_in (map document_model (take (k + 1) items)))
documents_more items k d l is =
    let more : map document_model (take (k + 1) items) ≡ map document_model (take k items) ++ document_model d ∷ [] =
    map_more document_model items k d l ∙ ap (λ (x : Document). map document_model (take k items) ++ document_model x ∷ []) (sym is) in (
      sym (ap paths_of more ∙ map-append (λ (x : DocumentModel). x.relative_path) (map document_model (take k items)) (document_model d ∷ [])),
      sym (ap (flat_map occurrences_in) more ∙ flat_map-append occurrences_in (map document_model (take k items)) (document_model d ∷ []) ∙ ap (λ (fs : List PlacedOccurrence). flat_map occurrences_in (map document_model (take k items)) ++ fs) (append-nil (occurrences_in (document_model d)))),
    )

pub nothing_kept : let t : Tables = record { paths = []; coverings = []; symbols = []; mentions = [] } in AreComplete t × Keeps [] [] t
nothing_kept = (
  record { of_paths = refl; of_symbols = refl },
  record {
    named = λ p. (λ h. h, λ h. h);
    coverings = λ p. refl;
    mentions = λ s. refl;
    symbols_valid = λ p i d l. absurd (omega (arith, l));
    paths_valid = λ s i d l. absurd (omega (arith, l));
  },
)

-- what keeps the documents that were given before, and one more, keeps those that are given now
pub kept_more : (old new : List DocumentModel) (d : DocumentModel) (t : Tables) → new ≡ old ++ d ∷ [] → Keeps (paths_of old ++ d.relative_path ∷ []) (flat_map occurrences_in old ++ occurrences_in d) t → Keeps (paths_of new) (flat_map occurrences_in new) t
kept_more old new d t is k =
    let paths : paths_of new ≡ paths_of old ++ d.relative_path ∷ [] = ap paths_of is ∙ map-append (λ (x : DocumentModel). x.relative_path) old (d ∷ []) in
    let found : flat_map occurrences_in new ≡ flat_map occurrences_in old ++ occurrences_in d = ap (flat_map occurrences_in) is ∙ flat_map-append occurrences_in old (d ∷ []) ∙ ap (λ (fs : List PlacedOccurrence). flat_map occurrences_in old ++ fs) (append-nil (occurrences_in d)) in
    rw (paths, found) k
