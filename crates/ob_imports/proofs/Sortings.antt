-- Each list can be sorted.
use Rattle.std.proofs.Common.{◌≡◌, ℕ, zero, suc, ◌+◌, ◌<◌, List, [], ◌∷◌, length, get_or, refl, ◌∙◌, ap, subst, arith, true, false, cond, inl, inr, Ordering}
use Rattle.std.specs.Prelude.{IsPermutation}
use Rattle.std.specs.Cmp.{IsTotalOrder}
use Rattle.std.specs.List.Sorted.{IsSorted}
use Rattle.std.specs.Ordering.{is_lt, ordering_reverse}
use Rattle.std.specs.declared.cmp.Ordering.TheVariants.{Less, Equal, Greater}
use Rattle.std.proofs.lemmas.Bool.{cases_Bool, false≢true}
use Rattle.std.proofs.lemmas.List.Sorted.{IsPermutation-append, IsPermutation-middle, IsPermutation-refl, IsPermutation-sym, IsPermutation-trans}

not_both : (o : Ordering) → is_lt o ≡ true → is_lt (ordering_reverse o) ≡ false
not_both Less e = refl
not_both Equal e = refl
not_both Greater e = absurd (false≢true e)

module _ {X : Type 0} (cmp : X → X → Ordering) (total : IsTotalOrder cmp) where
  sorted_cons : (y : X) (zs : List X) → ((d : X) → 0 < length zs → is_lt (cmp (get_or zs 0 d) y) ≡ false) → IsSorted cmp zs → IsSorted cmp (y ∷ zs)
  sorted_cons y zs head sorted zero d low l = head d (omega arith)
  sorted_cons y zs head sorted (suc k) d low l =
      let e : suc (k + 1) ≡ suc k + 1 = omega arith in
      subst (λ (n : ℕ). is_lt (cmp (get_or (y ∷ zs) n d) (get_or zs k d)) ≡ false) e (sorted k d (omega arith) (omega arith))

  head_of : (y : X) (zs : List X) → IsSorted cmp (y ∷ zs) → (d : X) → 0 < length zs → is_lt (cmp (get_or zs 0 d) y) ≡ false
  head_of y zs sorted d l = sorted 0 d (omega arith) (omega arith)

  tail_of : (y : X) (zs : List X) → IsSorted cmp (y ∷ zs) → IsSorted cmp zs
  tail_of y zs sorted k d low l =
      let e : suc k + 1 ≡ suc (k + 1) = omega arith in
      subst (λ (n : ℕ). is_lt (cmp (get_or (y ∷ zs) n d) (get_or zs k d)) ≡ false) e (sorted (suc k) d (omega arith) (omega arith))

  placed : X → List X → List X
  placed x [] = x ∷ []
  placed x (y ∷ ys) = cond (is_lt (cmp y x)) (y ∷ placed x ys) (x ∷ y ∷ ys)

  placed_above : (y x : X) (ys : List X) → is_lt (cmp x y) ≡ false → ((d : X) → 0 < length ys → is_lt (cmp (get_or ys 0 d) y) ≡ false) → (d : X) → 0 < length (placed x ys) → is_lt (cmp (get_or (placed x ys) 0 d) y) ≡ false
  unfolding placed
  placed_above y x [] f h d l = f
  placed_above y x (z ∷ zs) f h d l = elim (cases_Bool (is_lt (cmp z x))) [
    | inl t ↦ rw t (h d (omega arith))
    | inr g ↦ rw g f
  ]

  placed_sorted : (x : X) (ys : List X) → IsSorted cmp ys → IsSorted cmp (placed x ys)
  unfolding placed
  placed_sorted x [] s = sorted_cons x [] (λ d l. absurd (omega arith)) s
  placed_sorted x (y ∷ ys) s = elim (cases_Bool (is_lt (cmp y x))) [
    | inl t ↦
        let rotated : is_lt (cmp x y) ≡ false = ap is_lt (total.antisymm x y) ∙ not_both (cmp y x) t in
        rw t (sorted_cons y (placed x ys) (placed_above y x ys rotated (head_of y ys s)) (placed_sorted x ys (tail_of y ys s)))
    | inr f ↦ rw f (sorted_cons x (y ∷ ys) (λ d l. f) s)
  ]

  one_more : (x : X) (xs ys : List X) → IsPermutation xs ys → IsPermutation (x ∷ xs) (x ∷ ys)
  one_more x xs ys p = IsPermutation-append (x ∷ []) (x ∷ []) xs ys (IsPermutation-refl (x ∷ [])) p

  placed_same : (x : X) (ys : List X) → IsPermutation (x ∷ ys) (placed x ys)
  unfolding placed
  placed_same x [] = IsPermutation-refl (x ∷ [])
  placed_same x (y ∷ ys) = elim (cases_Bool (is_lt (cmp y x))) [
    | inl t ↦ rw t (IsPermutation-trans (x ∷ y ∷ ys) (y ∷ x ∷ ys) (y ∷ placed x ys) (IsPermutation-sym (y ∷ x ∷ ys) (x ∷ y ∷ ys) (IsPermutation-middle (y ∷ []) x ys)) (one_more y (x ∷ ys) (placed x ys) (placed_same x ys)))
    | inr f ↦ rw f (IsPermutation-refl (x ∷ y ∷ ys))
  ]

  pub sorting : (xs : List X) → (ys : List X) × IsPermutation xs ys × IsSorted cmp ys
  sorting [] = ([], IsPermutation-refl [], λ k d low l. absurd (omega arith))
  sorting (x ∷ xs) =
      let (ys, same, sorted) = sorting xs in (
        placed x ys,
        IsPermutation-trans (x ∷ xs) (x ∷ ys) (placed x ys) (one_more x xs ys same) (placed_same x ys),
        placed_sorted x ys sorted,
      )
