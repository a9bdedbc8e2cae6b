-- Sorted and deduplicated names, by their bytes.
use Rattle.std.proofs.Common.{◌≡◌, ℕ, ◌+◌, List, [], ◌∷◌, map, refl, sym, ap, ◌∙◌, arith, inl, inr}
use Rattle.std.proofs.lemmas.List.{get_or-map, length-map}
use Rattle.std.specs.Prelude.{String, Contains, IsPermutation, ◌↔◌}
use Rattle.std.specs.String.{string_bytes, string_cmp, string_eq, string_cmp_total}
use Rattle.std.specs.Str.{bytes_eq}
use Rattle.std.specs.Ordering.{nat_cmp, eq_by_cmp}
use Rattle.std.specs.Cmp.Lexicographic.{slice_cmp, nat_list_eq_equiv}
use Rattle.std.specs.List.{dedup, dedup_from, AllByRecursion}
use Rattle.std.specs.List.Sorted.{IsSorted, IsStrictlySortedBy}
use Rattle.std.specs.declared.cmp.Ordering.TheVariants.{Less}
use Rattle.std.proofs.lemmas.Bool.{cases_Bool}
use Rattle.std.proofs.lemmas.Map.Text.{is_eq-slice_cmp}
use Rattle.std.proofs.lemmas.List.Sorted.{IsPermutation-map, IsPermutation-sym, Contains-permutation}
use Rattle.std.proofs.lemmas.List.Kept.{IsStrictlySortedBy-dedup, Contains-dedup, Contains-from_dedup}
use Rattle.std.proofs.lemmas.Slice.Eq.{bytes_eq-Decides}

abbrev texts : {Z : Type 0} → List (String Z) → List (List ℕ)
texts names = map string_bytes names

module _ {Z : Type 0} where
  dedup_from_texts : (k : String Z) (xs : List (String Z)) → texts (dedup_from string_eq k xs) ≡ dedup_from bytes_eq (string_bytes k) (texts xs)
  dedup_from_texts k [] = refl
  dedup_from_texts k (x ∷ xs) =
      elim (cases_Bool (bytes_eq (string_bytes x) (string_bytes k))) [
        | inl same ↦ rw same (dedup_from_texts k xs)
        | inr other ↦ rw other (ap (λ (t : List (List ℕ)). string_bytes k ∷ t) (dedup_from_texts x xs))
      ]

  pub dedup_texts : (xs : List (String Z)) → texts (dedup string_eq xs) ≡ dedup bytes_eq (texts xs)
  dedup_texts [] = refl
  dedup_texts (x ∷ xs) = dedup_from_texts x xs

  all_texts : (x : String Z) (xs : List (String Z)) → AllByRecursion (λ y. string_cmp x y ≡ Less) xs → AllByRecursion (λ t. slice_cmp nat_cmp (string_bytes x) t ≡ Less) (texts xs)
  all_texts x [] h = tt
  all_texts x (y ∷ xs) h = (h.0, all_texts x xs h.1)

  pub sorted_texts : (xs : List (String Z)) → IsStrictlySortedBy string_cmp xs → IsStrictlySortedBy (slice_cmp nat_cmp) (texts xs)
  unfolding IsStrictlySortedBy
  sorted_texts [] h = tt
  sorted_texts (x ∷ xs) h = (all_texts x xs h.0, sorted_texts xs h.1)

  all_strings : (x : String Z) (xs : List (String Z)) → AllByRecursion (λ t. slice_cmp nat_cmp (string_bytes x) t ≡ Less) (texts xs) → AllByRecursion (λ y. string_cmp x y ≡ Less) xs
  all_strings x [] h = tt
  all_strings x (y ∷ xs) h = (h.0, all_strings x xs h.1)

  pub sorted_strings : (xs : List (String Z)) → IsStrictlySortedBy (slice_cmp nat_cmp) (texts xs) → IsStrictlySortedBy string_cmp xs
  unfolding IsStrictlySortedBy
  sorted_strings [] h = tt
  sorted_strings (x ∷ xs) h = (all_strings x xs h.0, sorted_strings xs h.1)

  ties : (x y : String Z) → string_eq x y ≡ eq_by_cmp string_cmp x y
  ties x y = sym (is_eq-slice_cmp (string_bytes x) (string_bytes y))

  pub ascending : (sorted new : List (String Z)) → new ≡ dedup string_eq sorted → IsSorted string_cmp sorted → IsStrictlySortedBy (slice_cmp nat_cmp) (texts new)
  ascending sorted new e h = rw e (sorted_texts (dedup string_eq sorted) (IsStrictlySortedBy-dedup string_cmp_total ties sorted h))

  pub members : (old sorted new : List (String Z)) → new ≡ dedup string_eq sorted → IsPermutation old sorted → (name : List ℕ) → Contains (texts new) name ↔ Contains (texts old) name
  members old sorted new e p name =
      let q = IsPermutation-map string_bytes old sorted p in
      let same : texts new ≡ dedup bytes_eq (texts sorted) = ap texts e ∙ dedup_texts sorted in
      rw same (
        λ h. Contains-permutation (texts sorted) (texts old) name (IsPermutation-sym (texts old) (texts sorted) q) (Contains-from_dedup bytes_eq (texts sorted) name h),
        λ h. Contains-dedup nat_list_eq_equiv (λ x y. (bytes_eq-Decides x y).0) (texts sorted) name (Contains-permutation (texts old) (texts sorted) name q h),
      )

  pub texts_in_order : (names : List (String Z)) → IsSorted string_cmp names → IsSorted (slice_cmp nat_cmp) (texts names)
  texts_in_order [] h k d low l = absurd (omega arith)
  texts_in_order (x ∷ xs) h k d low l =
      let long = length-map (x ∷ xs) string_bytes in
      rw (get_or-map string_bytes (x ∷ xs) k x d (omega arith), get_or-map string_bytes (x ∷ xs) (k + 1) x d (omega arith)) (h k x low (omega arith))
