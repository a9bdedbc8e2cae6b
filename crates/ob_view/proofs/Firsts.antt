-- The first entry with a key.
use Rattle.std.proofs.Common.{◌≡◌, ℕ, ◌-◌, ◌<◌, ◌≤◌, List, [], ◌∷◌, length, get_or, Bool, true, false, Option, Some, None, Bor, refl, sym, ap, ◌∙◌, subst, arith, ◌⊎◌, inl, inr}
use Rattle.std.specs.Prelude.{Contains, IfSome, IfNone, position, find, slice_get, nat_eq, nat_lt}
use Rattle.std.specs.List.{position_or_len}
use Rattle.std.specs.List.Sorted.{IsPartitionPoint}
use Rattle.std.specs.Option.{option_copied, option_map}
use Rattle.std.proofs.lemmas.Bool.{eqb-true, cases_lt}
use Rattle.std.proofs.lemmas.Bool.Decides.{nat_tests}
use Rattle.std.proofs.lemmas.List.Elements.{Contains-get_or}
use Rattle.std.proofs.lemmas.List.Folds.{find_at}
use Rattle.std.proofs.lemmas.List.Sums.{position_or_len_is}
use Rattle.std.proofs.lemmas.Option.{slice_get-get_or, slice_get_past, slice_get_within, get_or_from_slice_get}
use Rattle.module_table.specs.Order.{IsIncreasingBy, IsMonotoneBy}
use Rattle.scopes.specs.Scoped.{Meaning}

not_true : (b : Bool) → (b ≡ true → ⊥) → b ≡ false
not_true true h = absurd (h refl)
not_true false h = refl

module _ {X : Type 0} (p : X → Bool) where
  -- the first element passes the test, and the case that none does
  first_at : (xs : List X) (i : ℕ) (d : X) → i < length xs → ((j : ℕ) → j < i → p (get_or xs j d) ≡ false) → p (get_or xs i d) ≡ true → position_or_len p xs ≡ i
  first_at xs i d l before here = position_or_len_is p xs i d (omega (arith, l)) before (λ _. here)

  pub position_is : (xs : List X) (i : ℕ) (d : X) → i < length xs → ((j : ℕ) → j < i → p (get_or xs j d) ≡ false) → p (get_or xs i d) ≡ true → position p xs ≡ Some i
  position_is xs i d l before here = rw (first_at xs i d l before here) (grind (arith, nat_tests))

  pub find_is : (xs : List X) (i : ℕ) (d : X) → i < length xs → ((j : ℕ) → j < i → p (get_or xs j d) ≡ false) → p (get_or xs i d) ≡ true → find p xs ≡ Some (get_or xs i d)
  find_is xs i d l before here = find_at p xs ∙ ap (slice_get xs) (first_at xs i d l before here) ∙ slice_get-get_or xs i d l

  no_first : (x : X) (xs : List X) → ((j : ℕ) (d : X) → j < length (x ∷ xs) → p (get_or (x ∷ xs) j d) ≡ false) → position_or_len p (x ∷ xs) ≡ length (x ∷ xs)
  no_first x xs none = position_or_len_is p (x ∷ xs) (length (x ∷ xs)) x (omega arith) (λ j h. none j x h) (λ h. absurd (omega (arith, h)))

  pub position_not : (xs : List X) → ((j : ℕ) (d : X) → j < length xs → p (get_or xs j d) ≡ false) → position p xs ≡ None
  position_not [] none = refl
  position_not (x ∷ xs) none = rw (no_first x xs none) (grind (arith, nat_tests))

  pub find_not : (xs : List X) → ((j : ℕ) (d : X) → j < length xs → p (get_or xs j d) ≡ false) → find p xs ≡ None
  find_not [] none = refl
  find_not (x ∷ xs) none = find_at p (x ∷ xs) ∙ ap (slice_get (x ∷ xs)) (no_first x xs none) ∙ slice_get_past (x ∷ xs) (length (x ∷ xs)) (omega arith)

get_or_same : {X : Type 0} (xs : List X) (i : ℕ) (d e : X) → i < length xs → get_or xs i d ≡ get_or xs i e
get_or_same xs i d e l = get_or_from_slice_get xs i (get_or xs i e) d (slice_get-get_or xs i e l)

differ : (a k : ℕ) → a < k → nat_eq a k ≡ false
differ a k l = grind (arith, nat_tests)

differ_above : (a k : ℕ) → k < a → nat_eq a k ≡ false
differ_above a k l = grind (arith, nat_tests)

pub equal : (a k : ℕ) → a ≡ k → nat_eq a k ≡ true
equal a k e = grind (arith, nat_tests)

pub unequal : (a k : ℕ) → (a ≡ k → ⊥) → nat_eq a k ≡ false
unequal a k h = not_true (nat_eq a k) (λ t. h (eqb-true a k t))

above : (a k : ℕ) → nat_lt a k ≡ false → nat_eq a k ≡ false → k < a
above a k e f = grind (arith, nat_tests)

lower : (a k : ℕ) → nat_lt a k ≡ true → a < k
lower a k e = grind (arith, nat_tests)

below : (a k : ℕ) → nat_lt a k ≡ true → nat_eq a k ≡ false
below a k e = grind (arith, nat_tests)

module _ {X : Type 0} (n : X → ℕ) (xs : List X) (k : ℕ) where
  -- ---- entries with distinct keys

  found : IsIncreasingBy n xs → (x : X) → Contains xs x → n x ≡ k → find (λ y. nat_eq (n y) k) xs ≡ Some x
  found a x (i, l, is) e =
      let here : n (get_or xs i x) ≡ k = ap n is ∙ e in
      find_is (λ y. nat_eq (n y) k) xs i x l (λ j h.
      let less : n (get_or xs j x) < n (get_or xs i x) = a j i (get_or xs j x) (get_or xs i x) h (slice_get-get_or xs j x (omega (arith, h, l))) (slice_get-get_or xs i x l) in
      differ (n (get_or xs j x)) k (omega (arith, less, here))) (equal (n (get_or xs i x)) k here)
      ∙ ap (λ (y : X). Some y) is

  pub found_here : IsIncreasingBy n xs → (x : X) (i : ℕ) → slice_get xs i ≡ Some x → n x ≡ k → find (λ y. nat_eq (n y) k) xs ≡ Some x
  found_here a x i external here = found a x (i, slice_get_within xs i x external, get_or_from_slice_get xs i x x external) here

  none_found : ((y : X) → Contains xs y → n y ≡ k → ⊥) → find (λ y. nat_eq (n y) k) xs ≡ None
  none_found none = find_not (λ y. nat_eq (n y) k) xs (λ j d l. not_true _ (λ t. none (get_or xs j d) (Contains-get_or xs j d l) (eqb-true (n (get_or xs j d)) k t)))

  -- the result of a look-up by key
  pub listed : (o : Option (Bor X)) → IsIncreasingBy n xs → IfSome o (λ r. Contains xs r.now) → IfSome o (λ r. n r.now ≡ k) → IfNone o ((y : X) → Contains xs y → n y ≡ k → ⊥) → option_copied o ≡ find (λ y. nat_eq (n y) k) xs
  listed None a c e none = sym (none_found none)
  listed (Some r) a c e none = sym (found a r.now c e)

  -- ---- entries with keys that never decrease

  module _ (i : ℕ) (rise : IsMonotoneBy n xs) (point : IsPartitionPoint (λ y. nat_lt (n y) k ≡ true) (λ y. nat_lt (n y) k ≡ false) xs i) where
    pub placed : (d : X) → i < length xs → nat_eq (n (get_or xs i d)) k ≡ true → position (λ y. nat_eq (n y) k) xs ≡ Some i
    placed d l here = position_is (λ y. nat_eq (n y) k) xs i d l (λ j h. below (n (get_or xs j d)) k (point.0 j d (omega arith) h)) here

    pub placed_beyond : length xs ≤ i → position (λ y. nat_eq (n y) k) xs ≡ None
    placed_beyond l = position_not (λ y. nat_eq (n y) k) xs (λ j d h. below (n (get_or xs j d)) k (point.0 j d (omega arith) (omega (arith, l, h))))

    pub placed_nowhere : (e : X) → i < length xs → nat_eq (n (get_or xs i e)) k ≡ false → position (λ y. nat_eq (n y) k) xs ≡ None
    placed_nowhere e l other = position_not (λ y. nat_eq (n y) k) xs (λ j d h. at j d h (cases_lt j i) (cases_lt i j))
      where
        here : k < n (get_or xs i e)
        here = above (n (get_or xs i e)) k (point.1 i e (omega arith) l) other

        at : (j : ℕ) (d : X) → j < length xs → (j < i) ⊎ (i ≤ j) → (i < j) ⊎ (j ≤ i) → nat_eq (n (get_or xs j d)) k ≡ false
        at j d h (inl m) o = below (n (get_or xs j d)) k (point.0 j d (omega arith) m)
        at j d h (inr m) (inl o) =
            let up : n (get_or xs i e) ≤ n (get_or xs j d) = rise i j (get_or xs i e) (get_or xs j d) o (slice_get-get_or xs i e l) (slice_get-get_or xs j d h) in
            differ_above (n (get_or xs j d)) k (omega (arith, here, up))
        at j d h (inr m) (inr o) =
            let same : j ≡ i = omega (arith, m, o) in
            let one : get_or xs j d ≡ get_or xs i e = ap (λ (m : ℕ). get_or xs m d) same ∙ get_or_same xs i d e l in
            ap (λ (y : X). nat_eq (n y) k) one ∙ other

  -- the first of the entries with a key
  pub placed_first : (i : ℕ) (x : X) → slice_get xs i ≡ Some x → n x ≡ k → ((j : ℕ) (y : X) → j < i → slice_get xs j ≡ Some y → n y < k) → position (λ y. nat_eq (n y) k) xs ≡ Some i
  placed_first i x external here before =
      let l = slice_get_within xs i x external in
      position_is (λ y. nat_eq (n y) k) xs i x l (λ j h. differ (n (get_or xs j x)) k (before j (get_or xs j x) h (slice_get-get_or xs j x (omega (arith, h, l)))))
      (equal (n (get_or xs i x)) k (ap n (get_or_from_slice_get xs i x x external) ∙ here))

  -- if the last key is smaller, or the list is empty, no entry has the key
  pub placed_before : IsMonotoneBy n xs → (x : X) → slice_get xs (length xs - 1) ≡ Some x → nat_lt (n x) k ≡ true → position (λ y. nat_eq (n y) k) xs ≡ None
  placed_before rise x last test = position_not (λ y. nat_eq (n y) k) xs (λ j d l. at j d l (cases_lt j (length xs - 1)))
    where
      less : n x < k
      less = lower (n x) k test

      at : (j : ℕ) (d : X) → j < length xs → (j < length xs - 1) ⊎ (length xs - 1 ≤ j) → nat_eq (n (get_or xs j d)) k ≡ false
      at j d l (inl b) =
          let up : n (get_or xs j d) ≤ n x = rise j (length xs - 1) (get_or xs j d) x b (slice_get-get_or xs j d l) last in
          differ (n (get_or xs j d)) k (omega (arith, up, less))
      at j d l (inr e) =
          let same : length xs - 1 ≡ j = omega (arith, l, e) in
          let one : get_or xs j d ≡ x = get_or_from_slice_get xs j x d (ap (slice_get xs) (sym same) ∙ last) in
          differ (n (get_or xs j d)) k (omega (arith, ap n one, less))

  pub placed_none : slice_get xs (length xs - 1) ≡ None → position (λ y. nat_eq (n y) k) xs ≡ None
  placed_none e = position_not (λ y. nat_eq (n y) k) xs (λ j d l. absurd (
      let external : slice_get xs (length xs - 1) ≡ Some (get_or xs (length xs - 1) d) = slice_get-get_or xs (length xs - 1) d (omega (arith, l)) in
      let f : None ≡ Some (get_or xs (length xs - 1) d) = sym e ∙ external in
      cc))

-- a look-up of a use gives the declaration in the first entry of the use, or None if there is no such entry
pub meant : (ms : List Meaning) (used : ℕ) (o : Option ℕ) → IsIncreasingBy (λ (m : Meaning). m.used) ms → IfSome o (λ d. Contains ms (record { used = used; declared = d })) → IfNone o ((d : ℕ) → Contains ms (record { used = used; declared = d }) → ⊥)
    → o ≡ option_map (λ (m : Meaning). m.declared) (find (λ (m : Meaning). nat_eq m.used used) ms)
meant ms used None a c none =
    ap (option_map (λ (m : Meaning). m.declared)) (sym (none_found (λ (m : Meaning). m.used) ms used (λ y external e.
    none y.declared (subst (λ (u : ℕ). Contains ms (record { used = u; declared = y.declared })) e external))))
meant ms used (Some d) a c none = ap (option_map (λ (m : Meaning). m.declared)) (sym (found (λ (m : Meaning). m.used) ms used a (record { used = used; declared = d }) c refl))
