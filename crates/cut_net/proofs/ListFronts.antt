-- Prefixes of a list, and the elements of a prefix that a filter keeps.
use Rattle.std.proofs.Common.{◌≡◌, ℕ, zero, suc, ◌+◌, ◌<◌, ◌≤◌, inl, inr, List, [], ◌∷◌, ◌++◌, length, refl, ◌∙◌, ap, subst, arith, Bool, true, false, Some, take, drop, length-append}
use Rattle.std.specs.Prelude.{All, AllPairs, Contains, count_by, filter, slice_get, slice_index_or}
use Rattle.std.specs.List.{IsDistinct}
use Rattle.std.proofs.lemmas.Bool.{cases_Bool}
use Rattle.std.proofs.lemmas.List.{get_or_append_left}
use Rattle.std.proofs.lemmas.List.Elements.{All-contains, Contains-append_left, filter-append, filter_passes}
use Rattle.std.proofs.lemmas.List.Kept.{AllPairs-filter}
use Rattle.std.proofs.lemmas.List.Sums.{count_by-le-length, length-filter}
use Rattle.std.proofs.lemmas.Map.Keys.{IsDistinct-from_apart, apart_from_distinct}

module _ {X : Type 0} where
  pub take_in : (k m : ℕ) (xs : List X) → k ≤ m → take k (take m xs) ≡ take k xs
  take_in zero m xs le = refl
  take_in (suc k) zero xs le = absurd (omega arith)
  take_in (suc k) (suc m) [] le = refl
  take_in (suc k) (suc m) (x ∷ xs) le = ap (λ (t : List X). x ∷ t) (take_in k m xs (omega arith))

  pub get_in : (k m : ℕ) (xs : List X) → k < m → slice_get (take m xs) k ≡ slice_get xs k
  get_in k zero xs lt = absurd (omega arith)
  get_in k (suc m) [] lt = refl
  get_in zero (suc m) (x ∷ xs) lt = refl
  get_in (suc k) (suc m) (x ∷ xs) lt = get_in k m xs (omega arith)

  -- from the index on stands the element, and what comes after it
  pub rest_at : (xs : List X) (k : ℕ) (x : X) → slice_get xs k ≡ Some x → (more : List X) × (drop k xs ≡ x ∷ more)
  rest_at [] k x e = absurd cc
  rest_at (y ∷ ys) zero x e = (ys, let same : y ≡ x = cc in ap (λ (z : X). z ∷ ys) same)
  rest_at (y ∷ ys) (suc k) x e = rest_at ys k x e

  pub pairs_front : (R : X → X → Type 0) (xs ys : List X) → AllPairs R (xs ++ ys) → AllPairs R xs
  pairs_front R xs ys pairs i j d lt l =
      let long : length (xs ++ ys) ≡ length xs + length ys = length-append xs ys in
      let at_i : slice_index_or (xs ++ ys) i d ≡ slice_index_or xs i d = get_or_append_left xs ys d i (omega arith) in
      let at_j : slice_index_or (xs ++ ys) j d ≡ slice_index_or xs j d = get_or_append_left xs ys d j l in
      subst (λ (x : X). R x (slice_index_or xs j d)) at_i (subst (λ (y : X). R (slice_index_or (xs ++ ys) i d) y) at_j (pairs i j d lt (omega arith)))

  pub all_front : (P : X → Type 0) (xs ys : List X) → All P (xs ++ ys) → All P xs
  all_front P xs ys all k d l =
      let long : length (xs ++ ys) ≡ length xs + length ys = length-append xs ys in
      subst P (get_or_append_left xs ys d k l) (all k d (omega arith))

  pub cons_parts : (x y : X) (xs ys : List X) → x ∷ xs ≡ y ∷ ys → (x ≡ y) × (xs ≡ ys)
  cons_parts x y xs ys e = (cc, cc)

  pub deeper : (x y : X) (xs : List X) → Contains xs y → Contains (x ∷ xs) y
  deeper x y xs (k, l, is) = (suc k, omega arith, is)

  -- what a filter keeps
  pub kept : (p : X → Bool) (xs : List X) (x : X) → Contains xs x → p x ≡ true → Contains (filter p xs) x
  kept p [] x (k, l, is) e = absurd (omega arith)
  kept p (y ∷ ys) x (zero, l, is) e =
      let passes : p y ≡ true = ap p is ∙ e in
      rw passes (0, omega arith, is)
  kept p (y ∷ ys) x (suc k, l, is) e = elim (cases_Bool (p y)) [
    | inl passes ↦ rw passes (deeper y x (filter p ys) (kept p ys x (k, omega arith, is) e))
    | inr fails ↦ rw fails (kept p ys x (k, omega arith, is) e)
  ]

  pub passes_kept : (p : X → Bool) (xs : List X) (x : X) → Contains (filter p xs) x → p x ≡ true
  passes_kept p xs x has = All-contains (λ y. p y ≡ true) (filter p xs) x (filter_passes p xs) has

  pub fewer_kept : (p : X → Bool) (xs : List X) → length (filter p xs) ≤ length xs
  fewer_kept p xs =
      let e : length (filter p xs) ≡ count_by p xs = length-filter p xs in
      let le : count_by p xs ≤ length xs = count_by-le-length p xs in
      omega arith

  pub fewer_front : (p : X → Bool) (xs ys : List X) → count_by p xs ≤ count_by p (xs ++ ys)
  fewer_front p xs ys =
      let a : length (filter p xs) ≡ count_by p xs = length-filter p xs in
      let b : length (filter p (xs ++ ys)) ≡ count_by p (xs ++ ys) = length-filter p (xs ++ ys) in
      let c : length (filter p (xs ++ ys)) ≡ length (filter p xs ++ filter p ys) = ap length (filter-append p xs ys) in
      let d : length (filter p xs ++ filter p ys) ≡ length (filter p xs) + length (filter p ys) = length-append (filter p xs) (filter p ys) in
      omega arith

  pub distinct_kept : (same : X → X → Bool) (p : X → Bool) (xs : List X) → IsDistinct same xs → IsDistinct same (filter p xs)
  distinct_kept same p xs once = IsDistinct-from_apart same (filter p xs) (AllPairs-filter (λ x y. same x y ≡ false) p xs (λ i j d lt l. apart_from_distinct same xs i j d once lt l))

  pub contains_front : (xs ys : List X) (x : X) → Contains xs x → Contains (xs ++ ys) x
  contains_front xs ys x has = Contains-append_left xs ys x has
