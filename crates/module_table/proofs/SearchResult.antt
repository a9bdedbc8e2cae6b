-- What a binary search finds among elements whose numbers ascend.
use Rattle.std.proofs.Common.{◌≡◌, ℕ, ◌<◌, inl, inr, List, [], ◌∷◌, length, get_or, Result, Ok, Err, sym, ap, ◌∙◌, arith}
use Rattle.std.specs.Prelude.{Contains, IfSome, IfNone, Some}
use Rattle.std.specs.Result.{result_ok}
use Rattle.std.specs.Ordering.{nat_cmp, ordering_index}
use Rattle.std.specs.List.Sorted.{IsBinarySearchResult, IsSearchInRange, IsNonDecreasingBy}
use Rattle.std.proofs.lemmas.Bool.{cases_lt, cases_eq}
use Rattle.std.proofs.lemmas.Bool.Decides.{nat_tests}
use Rattle.std.proofs.lemmas.Cmp.{ranked}
use Rattle.std.proofs.lemmas.Option.{slice_get_within, slice_get-get_or, get_or_from_slice_get}
use Rattle.module_table.specs.Order.{IsIncreasingBy, IsIndexBy, HasNoneBy}

module _ {X : Type 0} (n : X → ℕ) where
  -- the keys increase with the index
  ascend_at : (xs : List X) (d : X) (i j : ℕ) → IsIncreasingBy n xs → i < j → j < length xs → n (get_or xs i d) < n (get_or xs j d)
  ascend_at xs d i j a l h = a i j (get_or xs i d) (get_or xs j d) l (slice_get-get_or xs i d (omega arith)) (slice_get-get_or xs j d h)

  rises : (xs : List X) (k : ℕ) → IsIncreasingBy n xs → IsNonDecreasingBy (λ y. ordering_index (nat_cmp (n y) k)) xs
  rises xs k a i j d le h = elim (cases_eq i j) [
    | inl e ↦ rw e (omega arith)
    | inr ne ↦ (let l : n (get_or xs i d) < n (get_or xs j d) = ascend_at xs d i j a (omega arith) h in grind (arith, nat_tests))
  ]

  -- a search by the numbers ends at the number, or there is none
  pub searched_found : (xs : List X) (k : ℕ) (r : Result ℕ ℕ) → IsSearchInRange r (length xs) → IsBinarySearchResult (λ y. nat_cmp (n y) k) xs r → IfSome (result_ok r) (IsIndexBy n xs k)
  searched_found [] k (Ok i) h at = absurd (omega (arith, h))
  searched_found (x ∷ xs) k (Ok i) h at = record { element = get_or (x ∷ xs) i x; there = slice_get-get_or (x ∷ xs) i x h; has = ranked _ k _ (sym (at x)) }
  searched_found xs k (Err i) h at = tt

  pub searched_none : (xs : List X) (k : ℕ) (r : Result ℕ ℕ) → IsIncreasingBy n xs → IsBinarySearchResult (λ y. nat_cmp (n y) k) xs r → IfNone (result_ok r) (HasNoneBy n xs k)
  searched_none xs k (Ok i) a at = tt
  searched_none xs k (Err i) a at = λ j x is has.
      let l : j < length xs = slice_get_within xs j x is in
      let same : get_or xs j x ≡ x = get_or_from_slice_get xs j x x is in
      let here : n (get_or xs j x) ≡ k = ap n same ∙ has in
      let parts = at (rises xs k a) in
      elim (cases_lt j i) [
        | inl below ↦ (let e = ranked _ k _ (sym (parts.0 j x (omega arith) below)) in omega (arith, e))
        | inr above ↦ (let e = ranked _ k _ (sym (parts.1 j x above l)) in omega (arith, e))
      ]

  -- an entry that is found at an index is in the list, and an entry that is found at no index is not
  pub placed_within : (xs : List X) (k i : ℕ) → IsIndexBy n xs k i → i < length xs
  placed_within xs k i p = slice_get_within xs i p.element p.there

  pub placed_is : (xs : List X) (k i : ℕ) (x : X) → IsIndexBy n xs k i → x ≡ get_or xs i x → Contains xs x × (n x ≡ k)
  placed_is xs k i x p e = ((i, placed_within xs k i p, sym e), ap n (e ∙ get_or_from_slice_get xs i p.element x p.there) ∙ p.has)

  pub none_among : (xs : List X) (k : ℕ) → HasNoneBy n xs k → (x : X) → Contains xs x → n x ≡ k → ⊥
  none_among xs k none x (i, l, e) has = none i x (slice_get-get_or xs i x l ∙ ap Some e) has
