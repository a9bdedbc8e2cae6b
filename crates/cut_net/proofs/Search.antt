-- A binary search over sorted names finds the index of a name.
use Rattle.std.proofs.Common.{◌≡◌, ℕ, map, subst, inl, inr, ◌+◌, ◌<◌, Bool, true, false, List, [], ◌∷◌, length, get_or, Some, None, Result, Ok, Err, refl, sym, ap, ◌∙◌, arith, Ordering}
use Rattle.std.specs.Prelude.{String}
use Rattle.std.specs.Result.{result_ok}
use Rattle.std.specs.String.{string_bytes, string_cmp}
use Rattle.std.specs.Str.{bytes_eq}
use Rattle.std.specs.Ordering.{nat_cmp, is_lt, is_eq, ordering_reverse}
use Rattle.std.specs.Cmp.Lexicographic.{slice_cmp, nat_list_cmp_total}
use Rattle.std.specs.List.{position, position_or_len}
use Rattle.std.specs.List.Sorted.{IsSortedBy, IsStrictlySortedBy, IsBinarySearchResult, IsSearchInRange}
use Rattle.std.specs.declared.cmp.Ordering.TheVariants.{Less, Equal, Greater}
use Rattle.std.proofs.lemmas.Bool.{cases_lt, lt-ltb, le-ltb}
use Rattle.std.proofs.lemmas.Slice.Eq.{bytes_eq-Decides}
use Rattle.digraph.proofs.Ordered.{sorted_texts}
use Rattle.std.proofs.lemmas.Map.Text.{is_eq-slice_cmp}
use Rattle.std.proofs.lemmas.Map.Keys.{Less-from_sorted}
use Rattle.std.proofs.lemmas.List.Sorted.{searchable_from_sorted}
use Rattle.std.proofs.lemmas.List.Sums.{position_or_len_is}

-- no name occurs twice
abbrev pub AreApart : List (List ℕ) → Type 0
AreApart names = (i j : ℕ) → i < j → j < length names → get_or names i [] ≡ get_or names j [] → ⊥

module _ {Z : Type 0} where
  is_sorted : (names : List (String Z)) → IsStrictlySortedBy string_cmp names → IsSortedBy (λ (a : String Z) (b : String Z). is_lt (slice_cmp nat_cmp (string_bytes a) (string_bytes b))) names
  is_sorted names h k d low lt =
      rw (nat_list_cmp_total.antisymm (string_bytes (get_or names (k + 1) d)) (string_bytes (get_or names k d)), Less-from_sorted string_cmp names k (k + 1) d h (omega arith) lt) refl

  -- the two tests of texts
  equal_is : (s : String Z) (name : List ℕ) (o : Ordering) → slice_cmp nat_cmp (string_bytes s) name ≡ o → bytes_eq (string_bytes s) name ≡ is_eq o
  equal_is s name o e = sym (is_eq-slice_cmp (string_bytes s) name) ∙ ap is_eq e

  abbrev is_at : List ℕ → String Z → Bool
  is_at name x = bytes_eq (string_bytes x) name

  found : (names : List (String Z)) (name : List ℕ) (i : ℕ) (d : String Z) → IsStrictlySortedBy string_cmp names → i < length names → slice_cmp nat_cmp (string_bytes (get_or names i d)) name ≡ Equal
      → Some i ≡ position (λ x. bytes_eq (string_bytes x) name) names
  found names name i d h lt equal =
      let here : bytes_eq (string_bytes (get_or names i d)) name ≡ true = equal_is (get_or names i d) name Equal equal in
      let same : string_bytes (get_or names i d) ≡ name = (bytes_eq-Decides (string_bytes (get_or names i d)) name).0 here in
      let before : (k : ℕ) → k < i → bytes_eq (string_bytes (get_or names k d)) name ≡ false = λ k below. equal_is (get_or names k d) name Less
      (subst (λ (t : List ℕ). slice_cmp nat_cmp (string_bytes (get_or names k d)) t ≡ Less) same (Less-from_sorted string_cmp names k i d h below lt)) in
      let place : position_or_len (is_at name) names ≡ i = position_or_len_is (is_at name) names i d (omega arith) before (λ _. here) in
      rw (place, lt-ltb i (length names) lt) refl

  missing : (names : List (String Z)) (name : List ℕ) (d : String Z) → ((k : ℕ) → k < length names → bytes_eq (string_bytes (get_or names k d)) name ≡ false) → None ≡ position (λ x. bytes_eq (string_bytes x) name) names
  missing names name d h =
      let place : position_or_len (is_at name) names ≡ length names = position_or_len_is (is_at name) names (length names) d (omega arith) h (λ lt. absurd (omega arith)) in
      rw (place, le-ltb (length names) (length names) (omega arith)) refl

  pub search_is : (names : List (String Z)) (name : List ℕ) (r : Result ℕ ℕ) → IsStrictlySortedBy string_cmp names → IsSearchInRange r (length names)
      → IsBinarySearchResult (λ s. slice_cmp nat_cmp (string_bytes s) name) names r → result_ok r ≡ position (λ x. bytes_eq (string_bytes x) name) names
  search_is [] name (Ok i) h range at = absurd (omega (arith, range))
  search_is [] name (Err i) h range at = refl
  search_is (x ∷ xs) name (Ok i) h range at = found (x ∷ xs) name i x h range (at x)
  search_is (x ∷ xs) name (Err i) h range at =
      let parts = at (searchable_from_sorted nat_list_cmp_total string_bytes (x ∷ xs) name (is_sorted (x ∷ xs) h)) in
      missing (x ∷ xs) name x (λ k lt. elim (cases_lt k i) [
        | inl below ↦ equal_is (get_or (x ∷ xs) k x) name Less (parts.0 k x (omega arith) below)
        | inr above ↦ equal_is (get_or (x ∷ xs) k x) name Greater (parts.1 k x above lt)
      ])

  -- strictly sorted names are distinct
  pub sorted_apart : (names : List (String Z)) → IsStrictlySortedBy string_cmp names → AreApart (map string_bytes names)
  sorted_apart names h i j below lt e =
      let less = Less-from_sorted (slice_cmp nat_cmp) (map string_bytes names) i j [] (sorted_texts names h) below lt in
      let one : slice_cmp nat_cmp (get_or (map string_bytes names) j []) (get_or (map string_bytes names) j []) ≡ Less = rw e at less in
      let other = nat_list_cmp_total.antisymm (get_or (map string_bytes names) j []) (get_or (map string_bytes names) j []) in
      let bad : Less ≡ Greater = sym one ∙ other ∙ ap ordering_reverse one in
      cc
