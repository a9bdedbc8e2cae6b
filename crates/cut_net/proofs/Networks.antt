-- The network of tables: names and imports in their order.
use Rattle.std.proofs.Common.{◌≡◌, ℕ, ◌<◌, ◌≤◌, true, false, eqb, ltb, ◌&&◌, ◌||◌, List, [], ◌∷◌, ◌++◌, length, get_or, map, Option, Some, refl, sym, ap, ◌∙◌, arith, inl, inr, subst}
use Rattle.std.specs.Prelude.{AllPairs, Contains, IsPermutation, String, filter}
use Rattle.std.specs.List.{IsDistinct, position}
use Rattle.std.specs.List.Sorted.{IsSorted, IsSortedByKey}
use Rattle.std.specs.Ordering.{nat_cmp, is_lt, ordering_then}
use Rattle.std.specs.Cmp.{IsTotalOrder, nat_cmp_total, nat_eq_equiv, on_total, then_total}
use Rattle.std.proofs.lemmas.Bool.Decides.{nat_tests}
use Rattle.std.specs.Cmp.Lexicographic.{nat_list_eq_equiv}
use Rattle.std.specs.Str.{bytes_eq}
use Rattle.std.specs.String.{string_bytes, string_cmp}
use Rattle.std.specs.declared.cmp.Ordering.{Ordering}
use Rattle.std.proofs.lemmas.Bool.{and_parts, cases_eq, cases_order, eqb-true, false_from_ne_true, false≢true}
use Rattle.std.proofs.lemmas.List.{get_or-map, get_or_append_left, get_or_default, get_or_push, length-map, length_push, map_push}
use Rattle.std.proofs.lemmas.List.Elements.{Contains-push_cases}
use Rattle.std.proofs.lemmas.List.Kept.{AllPairs-filter}
use Rattle.std.proofs.lemmas.List.Sorted.{Contains-permutation, IsPermutation-sym, length_permutation, ranks_by, sorted_far}
use Rattle.std.proofs.lemmas.Map.Keys.{IsDistinct-from_apart, IsDistinct-IsPermutation, apart_from_distinct}
use Rattle.std.proofs.lemmas.Slice.Eq.{bytes_eq-Decides}
use Rattle.cut_net.specs.declared.priced.Priced.{Priced}
use Rattle.cut_net.specs.Cuts.{have_equal_ends}
use Rattle.cut_net.specs.Lines.{IsAscending}
use Rattle.cut_net.specs.Network.{texts, unpinned}
use Rattle.cut_net.specs.NetText.{NetLine, Import, is_import, HaveDifferentImports, IsNetOf}
use Rattle.cut_net.specs.NetReading.{entry_line, import_line, AreTablesOf}
use Rattle.cut_net.specs.WellFormed.{AreBetween, AreNamesInOrder}
use Rattle.digraph.proofs.Members.{in_filter, from_filter, in_map, from_map}
use Rattle.digraph.proofs.Ordered.{sorted_strings, texts_in_order}
use Rattle.digraph.proofs.Names.{apart_ascend}
use Rattle.cut_net.proofs.Numbers.{AreNumbers}
use Rattle.cut_net.proofs.Places.{index_again, position_named}
use Rattle.cut_net.proofs.Search.{sorted_apart}

-- ---- names

module _ {Z : Type 0} where
  pub names_ascend : (names : List (String Z)) → IsSorted string_cmp names → IsDistinct bytes_eq (texts names) → AreNamesInOrder (texts names)
  names_ascend names sorted once = apart_ascend (texts names) (texts_in_order names sorted) once

  -- a known name has an index
  pub place_known : (names : List (String Z)) (name : List ℕ) (o : Option ℕ) → AreNamesInOrder (texts names) → o ≡ position (λ x. bytes_eq (string_bytes x) name) names → Contains (texts names) name
      → (i : ℕ) × (o ≡ Some i) × (get_or (texts names) i [] ≡ name)
  place_known names name o h e (k, within, at) =
      let here : get_or (texts names) k [] ≡ name = get_or_default (texts names) k [] name within ∙ at in
      let place = index_again (unpinned (texts names) []) k (sorted_apart names (sorted_strings names h)) within in
      (k, e ∙ sym (position_named name names) ∙ rw here at place, here)

pub same_name : (names : List (List ℕ)) → IsDistinct bytes_eq names → (a b : ℕ) → a < length names → b < length names → get_or names a [] ≡ get_or names b [] → a ≡ b
same_name names once a b la lb e =
    elim (cases_order a b) [
      | inl same ↦ same
      | inr other ↦ elim other [
        | inl less ↦ absurd (false≢true (sym (apart_from_distinct bytes_eq names a b [] once less lb) ∙ (bytes_eq-Decides (get_or names a []) (get_or names b [])).1 e))
        | inr more ↦ absurd (false≢true (sym (apart_from_distinct bytes_eq names b a [] once more la) ∙ (bytes_eq-Decides (get_or names b []) (get_or names a [])).1 (sym e)))
      ]
    ]

pub once_moved : (old new : List (List ℕ)) → IsPermutation old new → IsDistinct bytes_eq old → IsDistinct bytes_eq new
once_moved old new moved once = IsDistinct-IsPermutation bytes_eq nat_list_eq_equiv.symm old new moved once

-- ---- imports

from_of : (m n k l : List ℕ) (w x : ℕ) → Import m n w ≡ Import k l x → m ≡ k
from_of m n k l w x e = cc

to_of : (m n k l : List ℕ) (w x : ℕ) → Import m n w ≡ Import k l x → n ≡ l
to_of m n k l w x e = cc

amount_of : (m n k l : List ℕ) (w x : ℕ) → Import m n w ≡ Import k l x → w ≡ x
amount_of m n k l w x e = cc

one_import : (j i : Priced) → j.from ≡ i.from → j.to ≡ i.to → j.amount ≡ i.amount → j ≡ i
one_import j i first second third = λ k. record { from = first k; to = second k; amount = third k }

module _ (lines : List NetLine) (old names : List (List ℕ)) (es : List ((ℕ × ℕ) × ℕ)) (list : List Priced) (h : AreTablesOf lines old es)
    (listed : map (import_line names) list ≡ map (entry_line old) es) where
  lines_are : filter is_import lines ≡ map (import_line names) list
  lines_are = h.listed ∙ sym listed

  -- no two imports have the same ends
  pub ends_once : IsDistinct have_equal_ends list
  ends_once = IsDistinct-from_apart have_equal_ends list (λ i j d less within. false_from_ne_true _ (λ e.
      let p = and_parts _ _ e in
      let first : (get_or list i d).from ≡ (get_or list j d).from = eqb-true _ _ p.0 in
      let second : (get_or list i d).to ≡ (get_or list j d).to = eqb-true _ _ p.1 in
      let pairs : AllPairs HaveDifferentImports (map (import_line names) list) = rw (← lines_are) (AllPairs-filter HaveDifferentImports is_import lines h.apart) in
      let long = length-map list (import_line names) in
      let clash = pairs i j (import_line names d) less (omega arith) in
      let one = get_or-map (import_line names) list i d (import_line names d) (omega arith) in
      let two = get_or-map (import_line names) list j d (import_line names d) within in
      (rw (one, two) at clash) (ap (λ (k : ℕ). get_or names k []) first) (ap (λ (k : ℕ). get_or names k []) second)))

  pub few_moved : (imports : List Priced) → IsPermutation list imports → length imports ≤ 65536
  few_moved imports moved =
      let a = length_permutation list imports moved in
      let b = ap length listed in
      let c = length-map list (import_line names) in
      let d = length-map es (entry_line old) in
      let few = h.few_imports in
      omega arith

  pub net_is : (imports : List Priced) → AreNamesInOrder names → IsPermutation old names → AreBetween list (length names) → IsPermutation list imports → IsAscending imports → IsNetOf lines (unpinned names imports)
  net_is imports ascend same between moved ordered =
      let back = IsPermutation-sym list imports moved in
      let away = IsPermutation-sym old names same in
      let once = once_moved old names same h.are_names.once in
      record {
        names_ascend = ascend;
        named = λ x. (
          λ present. (h.are_names.named x).0 (Contains-permutation names old x away present),
          λ has. Contains-permutation old names x same ((h.are_names.named x).1 has),
        );
        between = λ i present. between i (Contains-permutation imports list i back present);
        imports_ascend = ordered;
        listed = λ i lf lt. (
          λ present. let listed_there : Contains (filter is_import lines) (import_line names i) = rw lines_are (in_map (import_line names) list i (Contains-permutation imports list i back present)) in
              from_filter is_import lines (import_line names i) listed_there,
          λ present. let mapped : Contains (map (import_line names) list) (import_line names i) = rw (← lines_are) (in_filter is_import lines (import_line names i) refl present) in
              let (j, within, is) = from_map (import_line names) list (import_line names i) mapped in
              let p = between j within in
              let first : j.from ≡ i.from = same_name names once j.from i.from p.0 lf (from_of _ _ _ _ _ _ is) in
              let second : j.to ≡ i.to = same_name names once j.to i.to p.1 lt (to_of _ _ _ _ _ _ is) in
              let third : j.amount ≡ i.amount = amount_of _ _ _ _ _ _ is in
              let whole : j ≡ i = one_import j i first second third in
              Contains-permutation list imports i moved (subst (λ (t : Priced). Contains list t) whole within),
        );
        no_pins = refl;
      }

-- ---- their order

abbrev pub ends_cmp : ℕ × ℕ → ℕ × ℕ → Ordering
ends_cmp x y = ordering_then (nat_cmp x.0 y.0) (nat_cmp x.1 y.1)

abbrev pub ends_of : Priced → ℕ × ℕ
ends_of i = (i.from, i.to)

ends_total : IsTotalOrder ends_cmp
ends_total = then_total (on_total (λ (p : ℕ × ℕ). p.0) nat_cmp_total) (on_total (λ (p : ℕ × ℕ). p.1) nat_cmp_total)

ordered : (a b c d : ℕ) → is_lt (ordering_then (nat_cmp c a) (nat_cmp d b)) ≡ false → (eqb a c && eqb b d) ≡ false → (ltb a c || (eqb a c && ltb b d)) ≡ true
ordered a b c d not_less apart = grind (arith, nat_tests)

-- imports in the order of their ends, with no two alike, ascend
pub imports_ascend : (imports : List Priced) → IsDistinct have_equal_ends imports → IsSortedByKey ends_of ends_cmp imports → IsAscending imports
imports_ascend imports once sorted i j d less within =
    let far = sorted_far (λ x y. is_lt (ends_cmp (ends_of x) (ends_of y))) (ranks_by ends_total ends_of) imports sorted i j d (omega arith) within in
    let a = get_or imports i d in
    let b = get_or imports j d in
    ordered a.from a.to b.from b.to far (apart_from_distinct have_equal_ends imports i j d once less within)

pub ends_flip : (i j : Priced) → have_equal_ends i j ≡ have_equal_ends j i
ends_flip i j = rw (nat_eq_equiv.symm i.from j.from, nat_eq_equiv.symm i.to j.to) refl

-- ---- one more

module _ {Z : Type 0} where
  -- a name in the order of coming is one of the names in order
  pub known_moved : (old names : List (String Z)) (i : ℕ) (s : String Z) → IsPermutation (texts old) (texts names) → i < length old → s ≡ get_or old i s → Contains (texts names) (string_bytes s)
  known_moved old names i s same within at = Contains-permutation (texts old) (texts names) (string_bytes s) same (in_map string_bytes old s (i, within, sym at))

  pub numbers_more : (old names : List (String Z)) (numbers : List ℕ) (n i : ℕ) (s : String Z) → AreNumbers (texts old) (texts names) numbers → length numbers ≡ i → i < length old → s ≡ get_or old i s →
      n < length names → get_or (texts names) n [] ≡ string_bytes s → AreNumbers (texts old) (texts names) (numbers ++ n ∷ [])
  numbers_more old names numbers n i s are count within at in_names place k h =
      let longer = length_push numbers n in
      elim (cases_eq k i) [
        | inl e ↦ rw (e, get_or_push numbers n 0 i count, length-map names string_bytes) (in_names, place ∙ ap string_bytes at ∙ sym (get_or-map string_bytes old i s [] within))
        | inr ne ↦
            let before : k < length numbers = omega arith in
            rw (get_or_append_left numbers (n ∷ []) 0 k before) (are k before)
      ]

  pub few_moved_names : (old names : List (String Z)) → IsPermutation (texts old) (texts names) → length (texts old) ≤ 8192 → length names ≤ 8192
  few_moved_names old names same few =
      let a = length_permutation (texts old) (texts names) same in
      let b = length-map names string_bytes in
      omega arith

pub between_next : (list : List Priced) (i : Priced) (count : ℕ) → AreBetween list count → (i.from < count) × (i.to < count) → AreBetween (list ++ i ∷ []) count
between_next list i count h p j present =
    elim (Contains-push_cases list i j present) [
      | inl old ↦ h j old
      | inr same ↦ subst (λ (t : Priced). (t.from < count) × (t.to < count)) same p
    ]

pub listed_next : {A : Type 0} (f : Priced → NetLine) (g : (ℕ × ℕ) × ℕ → NetLine) (shows : A → (ℕ × ℕ) × ℕ) (list : List Priced) (i : Priced) (items : List A) (item : A)
    → map f list ≡ map g (map shows items) → f i ≡ g (shows item) → map f (list ++ i ∷ []) ≡ map g (map shows (items ++ item ∷ []))
listed_next f g shows list i items item h e = rw (map_push f list i, map_push shows items item, map_push g (map shows items) (shows item), h, e) refl
