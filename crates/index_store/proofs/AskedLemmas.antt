-- The nearest entry is the nearest occurrence, and the locations of the entries are those of the occurrences.
use Rattle.std.proofs.Common.{◌≡◌, ◌⊎◌, ℕ, zero, suc, Bool, true, false, not, List, [], ◌∷◌, ◌++◌, map, fold, Option, Some, None, refl, sym, ap, ap₂, ◌∙◌, subst, arith, inl, inr, ⊎_elim}
use Rattle.std.specs.Prelude.{◌&&◌, ◌||◌, All, Contains, filter, option_map, if◌then◌else◌}
use Rattle.std.specs.List.{flat_map}
use Rattle.std.specs.Str.{bytes_eq}
use Rattle.std.proofs.lemmas.Bool.{and_from, and_parts, cases_Bool, false_from_ne_true, false≢true}
use Rattle.std.proofs.lemmas.Bool.Decides.{nat_tests}
use Rattle.std.proofs.lemmas.Grind.{flat_map-append}
use Rattle.std.proofs.lemmas.List.{append-nil, append_assoc}
use Rattle.std.proofs.lemmas.List.Elements.{Contains-append_cases, Contains-push_cases}
use Rattle.scip_index.specs.Plain.{IndexModel}
use Rattle.std.proofs.lemmas.Option.{none-some, same_Some}
use Rattle.index_store.specs.declared.location.Position.{Position}
use Rattle.index_store.specs.declared.row.PathEntry.{PathEntry}
use Rattle.index_store.specs.declared.span.Span.{Span}
use Rattle.index_store.specs.TableLookup.{covering_span, nearer_if_covering, nearer_of, nearest_entry, requested_location, locations_by_role}
use Rattle.index_store.specs.Queries.{Covers, PlacedOccurrence, HasPath, IsNearest, IsSymbolAt, NoneCovers, LocationModel, all_occurrences, is_definition, is_local, matches_lookup, location_at, location_of, locations_of}
use Rattle.index_store.specs.Spans.{is_before, is_in_span, is_nearer, span_of}
use Rattle.index_store.specs.Stores.{AreComplete, IsStoreOf, Tables, covering_in, coverings_under, mention_with_span, mention_of, mentions_under, covering_model, mention_model}
use Rattle.index_store.specs.Tables.{text_index, rows_at, rows_under, text_at}
use Rattle.index_store.proofs.TableLemmas.{bytes_same, same_bytes, text_among, under_number}

-- ---- positions and spans in order

-- a position before another is before or after any third
between : (a b c : Position) → is_before a b ≡ true → is_before c b ≡ false → is_before a c ≡ true
between a b c e f = grind (arith, nat_tests)

nearer_asym : (a b : Span) → is_nearer a b ≡ true → is_nearer b a ≡ false
nearer_asym a b e = grind (arith, nat_tests)

behind : (a b c : Position) → is_before a b ≡ true → is_before a c ≡ false → is_before c b ≡ true
behind a b c e f = grind (arith, nat_tests)

either : (x y : Bool) → (x || y) ≡ true → (x ≡ true) ⊎ (y ≡ true)
either true y e = inl refl
either false y e = inr e

neither : (x y : Bool) → (x || y) ≡ false → (x ≡ false) × (y ≡ false)
neither true y e = absurd cc
neither false y e = (refl, e)

or_left : (x y : Bool) → x ≡ true → (x || y) ≡ true
or_left x y e = rw e refl

or_right : (x y : Bool) → y ≡ true → (x || y) ≡ true
or_right true y e = refl
or_right false y e = e

not_from : (x : Bool) → x ≡ false → not x ≡ true
not_from x e = rw e refl

from_not : (x : Bool) → not x ≡ true → x ≡ false
from_not true e = absurd cc
from_not false e = refl

-- of spans that start together the nearer one ends earlier
ends_earlier : (x y : Bool) → x ≡ false → (not x && y) ≡ false → y ≡ false
ends_earlier x y e f = rw e at f

nearer_between : (a b c : Span) → is_nearer a b ≡ true → is_nearer c b ≡ false → is_nearer a c ≡ true
nearer_between a b c e f =
    let none = neither (is_before b.start c.start) (not (is_before c.start b.start) && is_before c.end b.end) f in
    elim (either (is_before b.start a.start) (not (is_before a.start b.start) && is_before a.end b.end) e) [
      | inl later ↦ or_left (is_before c.start a.start) (not (is_before a.start c.start) && is_before a.end c.end) (behind b.start a.start c.start later none.0)
      | inr ends ↦ let p = and_parts (not (is_before a.start b.start)) (is_before a.end b.end) ends in
          let not_first : is_before a.start b.start ≡ false = from_not (is_before a.start b.start) p.0 in
          elim (cases_Bool (is_before c.start b.start)) [
            | inl first ↦ or_left (is_before c.start a.start) (not (is_before a.start c.start) && is_before a.end c.end) (between c.start b.start a.start first not_first)
            | inr together ↦ let not_ended = ends_earlier (is_before c.start b.start) (is_before c.end b.end) together none.1 in
                let not_sooner : is_before a.start c.start ≡ false = false_from_ne_true (is_before a.start c.start) (λ sooner. false≢true (sym not_first ∙ between a.start c.start b.start sooner none.0)) in
                or_right (is_before c.start a.start) (not (is_before a.start c.start) && is_before a.end c.end)
                (and_from (not (is_before a.start c.start)) (is_before a.end c.end) (not_from (is_before a.start c.start) not_sooner) (between a.end b.end c.end p.1 not_ended))
          ]
    ]

nearer_trans : (a b c : Span) → is_nearer a b ≡ true → is_nearer b c ≡ true → is_nearer a c ≡ true
nearer_trans a b c e f = nearer_between a b c e (nearer_asym b c f)

-- ---- the nearest occurrence

one_span : (path : List ℕ) (at : Position) (f : PlacedOccurrence) (a b : Span) → Covers path at f a → Covers path at f b → a ≡ b
one_span path at f a b p q = same_Some a b (sym p.placed ∙ q.placed)

-- the nearest of these occurrences, as its span and its symbol
abbrev IsBest : List ℕ → Position → List PlacedOccurrence → Option (Span × List ℕ) → Type 0
IsBest path at found None = NoneCovers found path at
IsBest path at found (Some x) = (f : PlacedOccurrence) × IsNearest found path at f x.0 × (f.occurrence.symbol ≡ x.1)

-- one that doesn't cover the position
best_skips : (path : List ℕ) (at : Position) (found : List PlacedOccurrence) (best : Option (Span × List ℕ)) (f : PlacedOccurrence) → IsBest path at found best → ((span : Span) → Covers path at f span → ⊥) → IsBest path at (found ++ f ∷ []) best
best_skips path at found None f none never = λ g other has covers. ⊎_elim (λ (old : Contains found g). none g other old covers) (λ (is : f ≡ g). never other (subst (λ (x : PlacedOccurrence). Covers path at x other) (sym is) covers)) (Contains-push_cases found f g has)
best_skips path at found (Some x) f (g, n, is) never = (
  g,
  record {
    before = n.before;
    after = n.after ++ f ∷ [];
    among = ap (λ (fs : List PlacedOccurrence). fs ++ f ∷ []) n.among ∙ append_assoc n.before (g ∷ n.after) (f ∷ []);
    covers = n.covers;
    first = n.first;
    latest = λ h other has covers. ⊎_elim (λ (old : Contains n.after h). n.latest h other old covers) (λ (same : f ≡ h). absurd (never other (subst (λ (y : PlacedOccurrence). Covers path at y other) (sym same) covers))) (Contains-push_cases n.after f h has);
  },
  is,
)

-- the new one is nearer than all before it
newest : (path : List ℕ) (at : Position) (found : List PlacedOccurrence) (f : PlacedOccurrence) (span : Span) → Covers path at f span → ((g : PlacedOccurrence) (other : Span) → Contains found g → Covers path at g other → is_nearer span other ≡ true) → IsNearest (found ++ f ∷ []) path at f span
newest path at found f span covers nearer_than = record {
  before = found;
  after = [];
  among = refl;
  covers = covers;
  first = nearer_than;
  latest = λ g other (k, l, e) h. absurd (omega (arith, l));
}

-- nearer than the nearest is nearer than each
than_each : (path : List ℕ) (at : Position) (found : List PlacedOccurrence) (g : PlacedOccurrence) (symbol_span span : Span) → IsNearest found path at g symbol_span → is_nearer span symbol_span ≡ true → (h : PlacedOccurrence) (other : Span) → Contains found h → Covers path at h other → is_nearer span other ≡ true
than_each path at found g symbol_span span n e h other has covers =
    ⊎_elim (λ (early : Contains n.before h). nearer_trans span symbol_span other e (n.first h other early covers))
    (λ (late : Contains (g ∷ n.after) h). rest late)
    (Contains-append_cases n.before (g ∷ n.after) h (subst (λ (fs : List PlacedOccurrence). Contains fs h) n.among has))
  where
    rest : Contains (g ∷ n.after) h → is_nearer span other ≡ true
    rest (zero, l, is) = let same : other ≡ symbol_span = one_span path at h other symbol_span covers (subst (λ (x : PlacedOccurrence). Covers path at x symbol_span) is n.covers) in subst (λ (x : Span). is_nearer span x ≡ true) (sym same) e
    rest (suc k, l, is) = nearer_between span symbol_span other e (n.latest h other (k, omega (arith, l), is) covers)

abbrev pair_span : Span × List ℕ → Span
pair_span x = x.0

best_takes : (path : List ℕ) (at : Position) (found : List PlacedOccurrence) (best : Option (Span × List ℕ)) (f : PlacedOccurrence) (span : Span) → IsBest path at found best → Covers path at f span
    → IsBest path at (found ++ f ∷ []) (Some (nearer_of pair_span best (span, f.occurrence.symbol)))
best_takes path at found None f span none covers = (f, newest path at found f span covers (λ g other has h. absurd (none g other has h)), refl)
best_takes path at found (Some x) f span (g, n, is) covers = elim (cases_Bool (is_nearer span x.0)) [
  | inl symbol_span ↦ rw symbol_span (f, newest path at found f span covers (than_each path at found g x.0 span n symbol_span), refl)
  | inr far ↦ rw far (
    g,
    record {
      before = n.before;
      after = n.after ++ f ∷ [];
      among = ap (λ (fs : List PlacedOccurrence). fs ++ f ∷ []) n.among ∙ append_assoc n.before (g ∷ n.after) (f ∷ []);
      covers = n.covers;
      first = n.first;
      latest = λ h other has c. ⊎_elim (λ (old : Contains n.after h). n.latest h other old c)
          (λ (same : f ≡ h). let one : span ≡ other = one_span path at h span other (subst (λ (y : PlacedOccurrence). Covers path at y span) same covers) c in subst (λ (y : Span). is_nearer y x.0 ≡ false) one far)
          (Contains-push_cases n.after f h has);
    },
    is,
  )
]

-- what is kept of an occurrence under a path: nothing, where it covers nothing there, or its span and its symbol
kept_of : (path : List ℕ) (at : Position) (f : PlacedOccurrence) → ((covering_in path f ≡ []) × ((span : Span) → Covers path at f span → ⊥))
    ⊎ ((span : Span) × (covering_in path f ≡ (span, f.occurrence.symbol) ∷ []) × (is_in_span at span ≡ true → Covers path at f span) × (is_in_span at span ≡ false → (other : Span) → Covers path at f other → ⊥))
kept_of path at f = elim (cases_Bool (bytes_eq path f.path)) [
  | inr apart ↦ inl (rw apart refl, λ span covers. false≢true (sym apart ∙ bytes_same path f.path (sym covers.here)))
  | inl here ↦ spanned (span_of f.occurrence.range) refl here
]
  where
    symbolled : (span : Span) (symbol : List ℕ) → span_of f.occurrence.range ≡ Some span → f.occurrence.symbol ≡ symbol → bytes_eq path f.path ≡ true → ((covering_in path f ≡ []) × ((span : Span) → Covers path at f span → ⊥))
        ⊎ ((span : Span) × (covering_in path f ≡ (span, f.occurrence.symbol) ∷ []) × (is_in_span at span ≡ true → Covers path at f span) × (is_in_span at span ≡ false → (other : Span) → Covers path at f other → ⊥))
    symbolled span [] placed is here = inl (rw (here, placed, is) refl, λ other covers. covers.some is)
    symbolled span (b ∷ more) placed is here = inr (
      span,
      rw (here, placed, is) refl,
      λ inside. record { here = sym (same_bytes path f.path here); some = λ none. (let x = sym none ∙ is in absurd cc); placed = placed; inside = inside },
      λ outside other covers. (let one : span ≡ other = same_Some span other (sym placed ∙ covers.placed) in false≢true (sym outside ∙ subst (λ (x : Span). is_in_span at x ≡ true) (sym one) covers.inside)),
    )

    spanned : (o : Option Span) → span_of f.occurrence.range ≡ o → bytes_eq path f.path ≡ true → ((covering_in path f ≡ []) × ((span : Span) → Covers path at f span → ⊥))
        ⊎ ((span : Span) × (covering_in path f ≡ (span, f.occurrence.symbol) ∷ []) × (is_in_span at span ≡ true → Covers path at f span) × (is_in_span at span ≡ false → (other : Span) → Covers path at f other → ⊥))
    spanned None placed here = inl (rw (here, placed) refl, λ span covers. none-some span (sym placed ∙ covers.placed))
    spanned (Some span) placed here = symbolled span f.occurrence.symbol placed refl here

best_more : (path : List ℕ) (at : Position) (done : List PlacedOccurrence) (best : Option (Span × List ℕ)) (f : PlacedOccurrence) (span : Span) → IsBest path at done best → (is_in_span at span ≡ true → Covers path at f span)
    → (is_in_span at span ≡ false → (other : Span) → Covers path at f other → ⊥) → IsBest path at (done ++ f ∷ []) (nearer_if_covering pair_span at best (span, f.occurrence.symbol))
best_more path at done best f span h covers never = elim (cases_Bool (is_in_span at span)) [
  | inl inside ↦ rw inside (best_takes path at done best f span h (covers inside))
  | inr outside ↦ rw outside (best_skips path at done best f h (never outside))
]

best_of_all : (path : List ℕ) (at : Position) (done found : List PlacedOccurrence) (best : Option (Span × List ℕ)) → IsBest path at done best → IsBest path at (done ++ found) (fold (nearer_if_covering pair_span at) best (flat_map (covering_in path) found))
best_of_all path at done [] best h = subst (λ (fs : List PlacedOccurrence). IsBest path at fs best) (sym (append-nil done)) h
best_of_all path at done (f ∷ found) best h =
    let rest = flat_map (covering_in path) found in
    let whole : (done ++ f ∷ []) ++ found ≡ done ++ f ∷ found = append_assoc done (f ∷ []) found in
    elim (kept_of path at f) [
      | inl nothing ↦ rw nothing.0 (subst (λ (fs : List PlacedOccurrence). IsBest path at fs (fold (nearer_if_covering pair_span at) best rest)) whole (best_of_all path at (done ++ f ∷ []) found best (best_skips path at done best f h nothing.1)))
      | inr retained ↦ let next : Option (Span × List ℕ) = nearer_if_covering pair_span at best (retained.0, f.occurrence.symbol) in
          rw retained.1 (subst (λ (fs : List PlacedOccurrence). IsBest path at fs (fold (nearer_if_covering pair_span at) next rest)) whole (best_of_all path at (done ++ f ∷ []) found next (best_more path at done best f retained.0 h retained.2 retained.3)))
    ]

-- ---- rows as what they say

step_said : (symbols : List (List ℕ)) (at : Position) (best : Option PathEntry) (c : PathEntry) → option_map (covering_model symbols) (nearer_if_covering covering_span at best c) ≡ nearer_if_covering pair_span at (option_map (covering_model symbols) best) (covering_model symbols c)
step_said symbols at None c = elim (cases_Bool (is_in_span at c.span)) [
  | inl inside ↦ rw inside refl
  | inr outside ↦ rw outside refl
]
step_said symbols at (Some b) c = elim (cases_Bool (is_in_span at c.span)) [
  | inr outside ↦ rw outside refl
  | inl inside ↦ elim (cases_Bool (is_nearer c.span b.span)) [
    | inl symbol_span ↦ rw (inside, symbol_span) refl
    | inr far ↦ rw (inside, far) refl
  ]
]

fold_said : (symbols : List (List ℕ)) (at : Position) (best : Option PathEntry) (rows : List PathEntry) → option_map (covering_model symbols) (fold (nearer_if_covering covering_span at) best rows) ≡ fold (nearer_if_covering pair_span at) (option_map (covering_model symbols) best) (map (covering_model symbols) rows)
fold_said symbols at best [] = refl
fold_said symbols at best (c ∷ rows) =
    fold_said symbols at (nearer_if_covering covering_span at best c) rows ∙ ap (λ (o : Option (Span × List ℕ)). fold (nearer_if_covering pair_span at) o (map (covering_model symbols) rows)) (step_said symbols at best c)

symbol_of : (path : List ℕ) (at : Position) (found : List PlacedOccurrence) (best : Option (Span × List ℕ)) → IsBest path at found best → IsSymbolAt found path at (option_map (λ x. x.1) best)
symbol_of path at found None h = h
symbol_of path at found (Some x) (f, n, is) = (f, x.0, n, is)

-- the symbol of the nearest of what is kept of these occurrences is that at the position
pub found_symbol : (path : List ℕ) (at : Position) (found : List PlacedOccurrence) → IsSymbolAt found path at (option_map (λ x. x.1) (fold (nearer_if_covering pair_span at) None (flat_map (covering_in path) found)))
found_symbol path at found = symbol_of path at found (fold (nearer_if_covering pair_span at) None (flat_map (covering_in path) found)) (best_of_all path at [] found None none_yet)
  where
    none_yet : IsBest path at [] None
    none_yet = λ g other (k, l, is) covers. omega (arith, l)

-- the symbol of the nearest row is that at the position
pub nearest_symbol : (path : List ℕ) (at : Position) (found : List PlacedOccurrence) (symbols : List (List ℕ)) (rows : List PathEntry) → map (covering_model symbols) rows ≡ flat_map (covering_in path) found
    → IsSymbolAt found path at (option_map (λ c. text_at symbols c.symbol) (nearest_entry rows at))
nearest_symbol path at found symbols rows e =
    let best = symbol_of path at found (fold (nearer_if_covering pair_span at) None (flat_map (covering_in path) found)) (best_of_all path at [] found None none_yet) in
    let index_is : option_map (covering_model symbols) (nearest_entry rows at) ≡ fold (nearer_if_covering pair_span at) None (flat_map (covering_in path) found) = fold_said symbols at None rows ∙ ap (fold (nearer_if_covering pair_span at) None) e in
    subst (IsSymbolAt found path at) (ap (option_map (λ (x : Span × List ℕ). x.1)) (sym index_is) ∙ seen (nearest_entry rows at)) best
  where
    none_yet : IsBest path at [] None
    none_yet = λ g other (k, l, is) covers. omega (arith, l)

    seen : (o : Option PathEntry) → option_map (λ (x : Span × List ℕ). x.1) (option_map (covering_model symbols) o) ≡ option_map (λ (c : PathEntry). text_at symbols c.symbol) o
    seen None = refl
    seen (Some c) = refl

-- the nearest row is one of them
nearer_is : (P : PathEntry → Type 0) (at : Position) (best : Option PathEntry) (row c : PathEntry) → ((b : PathEntry) → best ≡ Some b → P b) → P row → nearer_if_covering covering_span at best row ≡ Some c → P c
nearer_is P at best row c h r e = elim (cases_Bool (is_in_span at row.span)) [
  | inr outside ↦ h c (rw outside at e)
  | inl inside ↦ chosen best h (rw inside at e)
]
  where
    chosen : (o : Option PathEntry) → ((b : PathEntry) → o ≡ Some b → P b) → Some (nearer_of covering_span o row) ≡ Some c → P c
    chosen None k f = subst P (same_Some row c f) r
    chosen (Some b) k f = elim (cases_Bool (is_nearer row.span b.span)) [
      | inl symbol_span ↦ subst P (same_Some row c (rw symbol_span at f)) r
      | inr far ↦ subst P (same_Some b c (rw far at f)) (k b refl)
    ]

pub nearest_is : (P : PathEntry → Type 0) (at : Position) (best : Option PathEntry) (rows : List PathEntry) (c : PathEntry) → ((b : PathEntry) → best ≡ Some b → P b) → All P rows → fold (nearer_if_covering covering_span at) best rows ≡ Some c → P c
nearest_is P at best [] c h all e = h c e
nearest_is P at best (r ∷ rows) c h all e =
    nearest_is P at (nearer_if_covering covering_span at best r) rows c (λ b. nearer_is P at best r b h (all 0 r (omega arith))) (λ k d l. all (suc k) d (omega (arith, l))) e

-- what a store of the index answers, where it has the path
pub nearest_here : (index : IndexModel) (t : Tables) (path : List ℕ) (at : Position) (n : ℕ) (symbol_span : Option PathEntry) → AreComplete t → IsStoreOf index t → text_index t.paths path ≡ Some n → symbol_span ≡ nearest_entry (rows_at t.coverings n) at
    → HasPath index path × IsSymbolAt (all_occurrences index) path at (option_map (λ c. text_at t.symbols c.symbol) symbol_span)
nearest_here index t path at n symbol_span whole store in_range is =
    let under : rows_under t.paths t.coverings path ≡ rows_at t.coverings n = under_number t.paths t.coverings path n whole.of_paths in_range in (
      (store.named path).0 (text_among t.paths path n in_range),
      rw (is, ← under) (nearest_symbol path at (all_occurrences index) t.symbols (coverings_under t path) (store.coverings path)),
    )

-- ---- locations

eq_flip : (a b : List ℕ) → bytes_eq a b ≡ bytes_eq b a
eq_flip a b = elim (cases_Bool (bytes_eq b a)) [
  | inl same ↦ bytes_same a b (sym (same_bytes b a same)) ∙ sym same
  | inr apart ↦ false_from_ne_true (bytes_eq a b) (λ e. false≢true (sym apart ∙ bytes_same b a (sym (same_bytes a b e)))) ∙ sym apart
]

-- whether an occurrence is wanted
abbrev pub is_wanted : Bool → List ℕ → List ℕ → PlacedOccurrence → Bool
is_wanted defines path symbol f = matches_lookup path symbol f && (if defines then is_definition f.occurrence else not (is_definition f.occurrence))

swap : (a b : Bool) → (a && b) ≡ (b && a)
swap true true = refl
swap true false = refl
swap false true = refl
swap false false = refl

given_asked : (defines local : Bool) (path : List ℕ) (o : Option Span) (here : List ℕ) (d : Bool) → flat_map (requested_location defines local path) (mention_with_span o here d)
    ≡ (if ((if defines then d else not d) && (not local || bytes_eq here path)) then location_at here o else [])
given_asked defines local path None here d = elim (cases_Bool ((if defines then d else not d) && (not local || bytes_eq here path))) [
  | inl requested ↦ rw requested refl
  | inr other ↦ rw other refl
]
given_asked defines local path (Some span) here d = elim (cases_Bool ((if defines then d else not d) && (not local || bytes_eq here path))) [
  | inl requested ↦ rw requested refl
  | inr other ↦ rw other refl
]

one_asked : (defines : Bool) (path symbol : List ℕ) (f : PlacedOccurrence) → flat_map (requested_location defines (is_local symbol) path) (mention_of symbol f) ≡ (if is_wanted defines path symbol f then location_of f else [])
one_asked defines path symbol f = elim (cases_Bool (bytes_eq symbol f.occurrence.symbol)) [
  | inr apart ↦ let other : bytes_eq f.occurrence.symbol symbol ≡ false = eq_flip f.occurrence.symbol symbol ∙ apart in
      rw (apart, other) refl
  | inl same ↦ let here : bytes_eq f.occurrence.symbol symbol ≡ true = eq_flip f.occurrence.symbol symbol ∙ same in
      rw (same, here) (given_asked defines (is_local symbol) path (span_of f.occurrence.range) f.path (is_definition f.occurrence)
      ∙ ap (λ (b : Bool). if b then location_of f else []) (swap (if defines then is_definition f.occurrence else not (is_definition f.occurrence)) (not (is_local symbol) || bytes_eq f.path path)))
]

if_first : (b : Bool) (f : PlacedOccurrence) (rest : List PlacedOccurrence) → locations_of (if b then f ∷ rest else rest) ≡ (if b then location_of f else []) ++ locations_of rest
if_first true f rest = refl
if_first false f rest = refl

pub all_asked : (defines : Bool) (path symbol : List ℕ) (found : List PlacedOccurrence) → flat_map (requested_location defines (is_local symbol) path) (flat_map (mention_of symbol) found) ≡ locations_of (filter (is_wanted defines path symbol) found)
all_asked defines path symbol [] = refl
all_asked defines path symbol (f ∷ found) =
    flat_map-append (requested_location defines (is_local symbol) path) (mention_of symbol f) (flat_map (mention_of symbol) found)
    ∙ ap₂ (λ (xs ys : List LocationModel). xs ++ ys) (one_asked defines path symbol f) (all_asked defines path symbol found)
    ∙ sym (if_first (is_wanted defines path symbol f) f (filter (is_wanted defines path symbol) found))

pub places_are : (defines : Bool) (index : IndexModel) (t : Tables) (path symbol : List ℕ) → IsStoreOf index t
    → flat_map (requested_location defines (is_local symbol) path) (map (mention_model t.paths) (mentions_under t symbol)) ≡ locations_by_role defines index path symbol
places_are true index t path symbol store = ap (flat_map (requested_location true (is_local symbol) path)) (store.mentions symbol) ∙ all_asked true path symbol (all_occurrences index)
places_are false index t path symbol store = ap (flat_map (requested_location false (is_local symbol) path)) (store.mentions symbol) ∙ all_asked false path symbol (all_occurrences index)
