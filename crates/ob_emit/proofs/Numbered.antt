-- Entries with increasing numbers: the first entry with a number is the only one.
use Rattle.std.proofs.Common.{◌≡◌, ℕ, zero, suc, ◌<◌, inl, inr, List, [], ◌∷◌, length, Option, Some, None, refl, sym, ap, ◌∙◌, arith}
use Rattle.std.specs.Prelude.{slice_get, ◌==◌, find, Contains, IfSome, IfNone}
use Rattle.std.specs.Borrow.{Bor}
use Rattle.std.specs.Option.{option_copied}
use Rattle.std.specs.List.{position, position_or_len}
use Rattle.std.proofs.lemmas.Option.{slice_get_within}
use Rattle.std.proofs.lemmas.Bool.{cases_Bool, eq-eqb, eqb-true, lt-ltb, le-ltb}
use Rattle.module_table.specs.Order.{IsIncreasingBy, HasNoneBy, IsIndexBy}
use Rattle.module_table.proofs.Elements.{some_one, slice_contains}

module _ {X : Type 0} (n : X → ℕ) where
  ascend_tail : (x : X) (xs : List X) → IsIncreasingBy n (x ∷ xs) → IsIncreasingBy n xs
  ascend_tail x xs up i j y z l p q = up (suc i) (suc j) y z (omega arith) p q

  pub find_there : (xs : List X) (i k : ℕ) (x : X) → IsIncreasingBy n xs → slice_get xs i ≡ Some x → n x ≡ k → find (λ y. n y == k) xs ≡ Some x
  find_there [] i k x up there is = absurd (let e : None ≡ Some x = there in cc)
  find_there (y ∷ ys) zero k x up there is =
      let same : y ≡ x = some_one y x there in
      let e : n y ≡ k = ap n same ∙ is in
      rw (eq-eqb (n y) k e) (ap Some same)
  find_there (y ∷ ys) (suc i) k x up there is =
      let l : n y < n x = up 0 (suc i) y x (omega arith) refl there in
      elim (cases_Bool (n y == k)) [
        | inl t ↦ absurd (let e : n y ≡ k = eqb-true (n y) k t in omega (arith, e, is, l))
        | inr f ↦ rw f (find_there ys i k x (ascend_tail y ys up) there is)
      ]

  pub find_among : (xs : List X) (k : ℕ) (x : X) → IsIncreasingBy n xs → Contains xs x → n x ≡ k → find (λ y. n y == k) xs ≡ Some x
  find_among xs k x up h is = let p = slice_contains xs x h in find_there xs p.0 k x up p.1 is

  pub find_nowhere : (xs : List X) (k : ℕ) → ((x : X) → Contains xs x → n x ≡ k → ⊥) → find (λ y. n y == k) xs ≡ None
  find_nowhere [] k none = refl
  find_nowhere (x ∷ xs) k none = elim (cases_Bool (n x == k)) [
    | inl t ↦ absurd (none x (0, omega arith, refl) (eqb-true (n x) k t))
    | inr f ↦ rw f (find_nowhere xs k (λ y h e. none y (suc h.0, omega (arith, h.1), h.2) e))
  ]

  place_there : (xs : List X) (i k : ℕ) (x : X) → IsIncreasingBy n xs → slice_get xs i ≡ Some x → n x ≡ k → position_or_len (λ y. n y == k) xs ≡ i
  place_there [] i k x up there is = absurd (let e : None ≡ Some x = there in cc)
  place_there (y ∷ ys) zero k x up there is =
      let e : n y ≡ k = ap n (some_one y x there) ∙ is in
      rw (eq-eqb (n y) k e) refl
  place_there (y ∷ ys) (suc i) k x up there is =
      let l : n y < n x = up 0 (suc i) y x (omega arith) refl there in
      elim (cases_Bool (n y == k)) [
        | inl t ↦ absurd (let e : n y ≡ k = eqb-true (n y) k t in omega (arith, e, is, l))
        | inr f ↦ rw f (let rest : position_or_len (λ z. n z == k) ys ≡ i = place_there ys i k x (ascend_tail y ys up) there is in omega arith)
      ]

  pub position_there : (xs : List X) (i k : ℕ) → IsIncreasingBy n xs → IsIndexBy n xs k i → position (λ y. n y == k) xs ≡ Some i
  position_there xs i k up f =
      let e : position_or_len (λ y. n y == k) xs ≡ i = place_there xs i k f.element up f.there f.has in
      let l : i < length xs = slice_get_within xs i f.element f.there in
      rw (e, lt-ltb i (length xs) l) refl

  no_place : (xs : List X) (k : ℕ) → HasNoneBy n xs k → position_or_len (λ y. n y == k) xs ≡ length xs
  no_place [] k none = refl
  no_place (x ∷ xs) k none = elim (cases_Bool (n x == k)) [
    | inl t ↦ absurd (none 0 x refl (eqb-true (n x) k t))
    | inr f ↦ rw f (let rest : position_or_len (λ z. n z == k) xs ≡ length xs = no_place xs k (λ i y p q. none (suc i) y p q) in omega arith)
  ]

  pub position_nowhere : (xs : List X) (k : ℕ) → HasNoneBy n xs k → position (λ y. n y == k) xs ≡ None
  position_nowhere xs k none = rw (no_place xs k none, le-ltb (length xs) (length xs) (omega arith)) refl

  -- what a look-up by the number returns
  pub find_answer : (xs : List X) (k : ℕ) (o : Option (Bor X)) → IsIncreasingBy n xs → IfSome o (λ r. Contains xs r.now) → IfSome o (λ r. n r.now ≡ k)
      → IfNone o ((x : X) → Contains xs x → n x ≡ k → ⊥) → option_copied o ≡ find (λ y. n y == k) xs
  find_answer xs k None up found number none = sym (find_nowhere xs k none)
  find_answer xs k (Some r) up found number none = sym (find_among xs k r.now up found number)

  -- what a search by the number returns
  pub position_answer : (xs : List X) (k : ℕ) (o : Option ℕ) → IsIncreasingBy n xs → IfSome o (IsIndexBy n xs k) → IfNone o (HasNoneBy n xs k) → o ≡ position (λ y. n y == k) xs
  position_answer xs k None up found none = sym (position_nowhere xs k none)
  position_answer xs k (Some i) up found none = sym (position_there xs i k up found)
