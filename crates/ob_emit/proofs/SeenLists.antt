-- The last element of a list that passes a test, the first one, and the only one.
use Rattle.std.proofs.Common.{◌≡◌, ℕ, zero, suc, ◌<◌, ◌≤◌, ◌-◌, inl, inr, List, [], ◌∷◌, length, map, Bool, true, Some, None, refl, sym, ap, ◌∙◌, arith}
use Rattle.std.specs.Prelude.{slice_get, position, find, Contains, option_map}
use Rattle.std.specs.List.{filter, position_or_len}
use Rattle.std.proofs.lemmas.Bool.{cases_Bool, lt-ltb}
use Rattle.std.proofs.lemmas.List.{length-map}
use Rattle.std.proofs.lemmas.Option.{slice_get_within, slice_get-map}
use Rattle.module_table.specs.Order.{IsIncreasingBy}
use Rattle.module_table.proofs.Elements.{slice_contains, some_one}

-- the element that passes, at its index
pub record PassedAt {X : Type 0} (t : X → Bool) (xs : List X) (x : X) : Type 0 where
  pub place : ℕ
  pub at : slice_get xs place ≡ Some x
  pub passes : t x ≡ true

module _ {X : Type 0} (t : X → Bool) where
  filter_none : (xs : List X) → ((x : X) → Contains xs x → t x ≡ true → ⊥) → filter t xs ≡ []
  filter_none [] none = refl
  filter_none (x ∷ xs) none = elim (cases_Bool (t x)) [
    | inl e ↦ absurd (none x (0, omega arith, refl) e)
    | inr e ↦ rw e (filter_none xs (λ y h f. none y (suc h.0, omega (arith, h.1), h.2) f))
  ]

  last_behind : (x p : X) (ys : List X) → slice_get ys (length ys - 1) ≡ Some p → slice_get (x ∷ ys) (length (x ∷ ys) - 1) ≡ Some p
  last_behind x p [] e = absurd (let none : None ≡ Some p = e in cc)
  last_behind x p (y ∷ ys) e = let n : length (x ∷ y ∷ ys) - 1 ≡ suc (length (y ∷ ys) - 1) = omega arith in ap (slice_get (x ∷ y ∷ ys)) n ∙ e

  -- if numbers increase, the last element that passes has the greatest number
  pub last_passed : (n : X → ℕ) (xs : List X) (i : ℕ) (p : X) → IsIncreasingBy n xs → slice_get xs i ≡ Some p → t p ≡ true → ((q : X) → Contains xs q → t q ≡ true → n q ≤ n p)
      → slice_get (filter t xs) (length (filter t xs) - 1) ≡ Some p
  last_passed n [] i p up at is last = absurd (let none : None ≡ Some p = at in cc)
  last_passed n (x ∷ xs) zero p up at is last =
      let same : x ≡ p = some_one x p at in
      let e : t x ≡ true = ap t same ∙ is in
      let none : filter t xs ≡ [] = filter_none xs (λ q h f.
      let l : n q ≤ n p = last q (suc h.0, omega (arith, h.1), h.2) f in
      let j = slice_contains xs q h in
      let m : n x < n q = up 0 (suc j.0) x q (omega arith) refl j.1 in
      omega (arith, l, m, ap n same)) in
      rw e (rw none (ap Some same))
  last_passed n (x ∷ xs) (suc i) p up at is last =
      let rest : slice_get (filter t xs) (length (filter t xs) - 1) ≡ Some p =
      last_passed n xs i p (λ a b y z l f g. up (suc a) (suc b) y z (omega arith) f g) at is (λ q h f. last q (suc h.0, omega (arith, h.1), h.2) f) in
      elim (cases_Bool (t x)) [
        | inl e ↦ rw e (last_behind x p (filter t xs) rest)
        | inr e ↦ rw e rest
      ]

  passed_here : (x : X) (xs : List X) (j : ℕ) (q : X) → t x ≡ true → ((i : ℕ) → slice_get (filter t xs) i ≡ Some q → PassedAt t xs q) → slice_get (x ∷ filter t xs) j ≡ Some q → PassedAt t (x ∷ xs) q
  passed_here x xs zero q is rest e = record { place = 0; at = e; passes = ap t (sym (some_one x q e)) ∙ is }
  passed_here x xs (suc j) q is rest e = let r = rest j e in record { place = suc r.place; at = r.at; passes = r.passes }

  pub passed : (xs : List X) (j : ℕ) (q : X) → slice_get (filter t xs) j ≡ Some q → PassedAt t xs q
  passed [] j q e = absurd (let none : None ≡ Some q = e in cc)
  passed (x ∷ xs) j q e = elim (cases_Bool (t x)) [
    | inl is ↦ passed_here x xs j q is (λ i g. passed xs i q g) (rw is at e)
    | inr f ↦ (let r = passed xs j q (rw f at e) in record { place = suc r.place; at = r.at; passes = r.passes })
  ]

  place_first : (xs : List X) (i : ℕ) (x : X) → slice_get xs i ≡ Some x → t x ≡ true → ((j : ℕ) (y : X) → j < i → slice_get xs j ≡ Some y → t y ≡ true → ⊥) → position_or_len t xs ≡ i
  place_first [] i x at is none = absurd (let e : None ≡ Some x = at in cc)
  place_first (y ∷ ys) zero x at is none = let e : t y ≡ true = ap t (some_one y x at) ∙ is in rw e refl
  place_first (y ∷ ys) (suc i) x at is none = elim (cases_Bool (t y)) [
    | inl e ↦ absurd (none 0 y (omega arith) refl e)
    | inr f ↦ rw f (let rest : position_or_len t ys ≡ i = place_first ys i x at is (λ j z l g e. none (suc j) z (omega arith) g e) in omega arith)
  ]

  -- the first that passes
  pub position_first : (xs : List X) (i : ℕ) (x : X) → slice_get xs i ≡ Some x → t x ≡ true → ((j : ℕ) (y : X) → j < i → slice_get xs j ≡ Some y → t y ≡ true → ⊥) → position t xs ≡ Some i
  position_first xs i x at is none =
      let e : position_or_len t xs ≡ i = place_first xs i x at is none in
      let l : i < length xs = slice_get_within xs i x at in
      rw (e, lt-ltb i (length xs) l) refl

  -- the only one that passes
  pub find_only : (xs : List X) (i : ℕ) (x : X) → slice_get xs i ≡ Some x → t x ≡ true → ((y : X) → Contains xs y → t y ≡ true → y ≡ x) → find t xs ≡ Some x
  find_only [] i x at is only = absurd (let e : None ≡ Some x = at in cc)
  find_only (y ∷ ys) zero x at is only = let e : t y ≡ true = ap t (some_one y x at) ∙ is in rw e at
  find_only (y ∷ ys) (suc i) x at is only = elim (cases_Bool (t y)) [
    | inl e ↦ (let same : y ≡ x = only y (0, omega arith, refl) e in rw e (ap Some same))
    | inr f ↦ rw f (find_only ys i x at is (λ z h e. only z (suc h.0, omega (arith, h.1), h.2) e))
  ]

-- the declaration of the last element
pub last_map : {X Y : Type 0} (f : X → Y) (xs : List X) → slice_get (map f xs) (length (map f xs) - 1) ≡ option_map f (slice_get xs (length xs - 1))
last_map f xs = ap (λ (n : ℕ). slice_get (map f xs) (n - 1)) (length-map xs f) ∙ slice_get-map f xs (length xs - 1)
