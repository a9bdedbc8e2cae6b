-- In a list sorted by key the elements with one key are adjacent.
use Rattle.std.proofs.Common.{◌≡◌, ℕ, zero, suc, ◌-◌, ◌<◌, ◌≤◌, List, [], ◌∷◌, length, take, drop, get_or, true, false, Bool, refl, sym, ap, ◌∙◌, arith, eqb, ltb, leb}
use Rattle.std.specs.Prelude.{slice_range}
use Rattle.std.specs.List.{filter}
use Rattle.std.specs.Prelude.{not, ◌&&◌}
use Rattle.std.specs.Ordering.{nat_cmp, is_lt}
use Rattle.std.specs.List.Sorted.{IsStableByKey, IsPartitionPoint, ties}
use Rattle.std.proofs.lemmas.Bool.Decides.{nat_tests}
use Rattle.module_table.specs.declared.rows.TypePart.{TypePart}
use Rattle.module_table.specs.declared.rows.Part.TheVariants as parts
use Rattle.ob_interface.specs.Interfaces.{is_part_by}

module _ {X : Type 0} (n : X → ℕ) (k : ℕ) where
  none_from : (xs : List X) → ((i : ℕ) (d : X) → i < length xs → k < n (get_or xs i d)) → filter (λ x. eqb (n x) k) xs ≡ []
  none_from [] h = refl
  none_from (x ∷ xs) h =
      let above : k < n x = h 0 x (omega arith) in
      let test : eqb (n x) k ≡ false = grind (arith, nat_tests) in
      rw test (none_from xs (λ i d l. h (suc i) d (omega (arith, l))))

  unfoldable no_items : List X
  no_items = []

  dropped : (l : ℕ) → drop l no_items ≡ []
  unfolding no_items
  dropped zero = refl
  dropped (suc l) = refl

  taken : (m : ℕ) → take m no_items ≡ []
  unfolding no_items
  taken zero = refl
  taken (suc m) = refl

  empty : (m l : ℕ) → take m (drop l no_items) ≡ []
  unfolding no_items
  empty m l = ap (λ (t : List X). take m t) (dropped l) ∙ taken m

  -- below lo keys are less, from hi on they are greater, and between them they are this one
  pub filter_range : (xs : List X) (lo hi : ℕ) → ((i : ℕ) (d : X) → i < lo → i < length xs → n (get_or xs i d) < k) → ((i : ℕ) (d : X) → lo ≤ i → i < length xs → k ≤ n (get_or xs i d))
      → ((i : ℕ) (d : X) → i < hi → i < length xs → n (get_or xs i d) ≤ k) → ((i : ℕ) (d : X) → hi ≤ i → i < length xs → k < n (get_or xs i d))
      → slice_range xs lo hi ≡ filter (λ x. eqb (n x) k) xs
  unfolding no_items
  filter_range [] lo hi a b c e = empty (hi - lo) lo
  filter_range (x ∷ xs) zero zero a b c e = sym (none_from (x ∷ xs) (λ i d l. e i d (omega arith) l))
  filter_range (x ∷ xs) zero (suc hi) a b c e =
      let low : k ≤ n x = b 0 x (omega arith) (omega arith) in
      let high : n x ≤ k = c 0 x (omega arith) (omega arith) in
      let test : eqb (n x) k ≡ true = grind (arith, nat_tests) in
      let width : suc hi - 0 ≡ suc (hi - 0) = omega arith in
      rw (test, width) (ap (λ (t : List X). x ∷ t) (filter_range xs zero hi (λ i d l. absurd (omega (arith, l))) (λ i d l m. b (suc i) d (omega arith) (omega (arith, m))) (λ i d l m. c (suc i) d (omega (arith, l)) (omega (arith, m)))
      (λ i d l m. e (suc i) d (omega (arith, l)) (omega (arith, m)))))
  filter_range (x ∷ xs) (suc lo) zero a b c e = absurd (clash (a 0 x (omega arith) (omega arith)) (e 0 x (omega arith) (omega arith)))
    where
      clash : n x < k → k < n x → ⊥
      clash f g = omega arith
  filter_range (x ∷ xs) (suc lo) (suc hi) a b c e =
      let below : n x < k = a 0 x (omega arith) (omega arith) in
      let test : eqb (n x) k ≡ false = grind (arith, nat_tests) in
      let width : suc hi - suc lo ≡ hi - lo = omega arith in
      rw (test, width) (filter_range xs lo hi (λ i d l m. a (suc i) d (omega (arith, l)) (omega (arith, m))) (λ i d l m. b (suc i) d (omega (arith, l)) (omega (arith, m)))
      (λ i d l m. c (suc i) d (omega (arith, l)) (omega (arith, m))) (λ i d l m. e (suc i) d (omega (arith, l)) (omega (arith, m))))

-- a stable sort keeps the order of the components of one declaration group
pub filter_stable : (old new : List TypePart) (k : ℕ) → IsStableByKey (λ (p : TypePart). p.declared_by) nat_cmp old new → filter (is_part_by k) new ≡ filter (is_part_by k) old
filter_stable old new k h =
    let x : TypePart = record { declared_by = k; number = 0; part = parts.Array } in
    let e : (p : TypePart) → ties (λ (a b : TypePart). is_lt (nat_cmp a.declared_by b.declared_by)) x p ≡ is_part_by k p = λ p. tied k p.declared_by in
    ap (λ (t : TypePart → Bool). filter t new) (λ i p. sym (e p) i) ∙ h x ∙ ap (λ (t : TypePart → Bool). filter t old) (λ i p. e p i)
  where
    tied : (a b : ℕ) → (not (is_lt (nat_cmp a b)) && not (is_lt (nat_cmp b a))) ≡ eqb b a
    tied a b = grind (arith, nat_tests)

-- the components between the two partition points of a declaration group
pub filter_between : (xs : List TypePart) (k lo hi : ℕ) → IsPartitionPoint (λ p. ltb p.declared_by k ≡ true) (λ p. ltb p.declared_by k ≡ false) xs lo → IsPartitionPoint (λ p. leb p.declared_by k ≡ true) (λ p. leb p.declared_by k ≡ false) xs hi
    → slice_range xs lo hi ≡ filter (is_part_by k) xs
filter_between xs k lo hi low high =
    filter_range (λ (p : TypePart). p.declared_by) k xs lo hi (λ i d l m. less _ (low.0 i d (omega arith) l)) (λ i d l m. more _ (low.1 i d l m)) (λ i d l m. at_most _ (high.0 i d (omega arith) l)) (λ i d l m. above _ (high.1 i d l m))
  where
    less : (a : ℕ) → ltb a k ≡ true → a < k
    less a e = grind (arith, nat_tests)

    more : (a : ℕ) → ltb a k ≡ false → k ≤ a
    more a e = grind (arith, nat_tests)

    at_most : (a : ℕ) → leb a k ≡ true → a ≤ k
    at_most a e = grind (arith, nat_tests)

    above : (a : ℕ) → leb a k ≡ false → k < a
    above a e = grind (arith, nat_tests)
