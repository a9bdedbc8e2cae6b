-- Two strictly sorted lists with the same elements are equal.
use Rattle.std.proofs.Common.{◌≡◌, ℕ, zero, suc, ◌<◌, List, [], ◌∷◌, refl, sym, ◌∙◌, ap, subst, arith}
use Rattle.std.specs.Prelude.{AllPairs, Contains, IsTrue}
use Rattle.std.specs.List.Sorted.{IsStrictlySortedBy}
use Rattle.std.specs.Ordering.{nat_cmp, ordering_reverse}
use Rattle.std.specs.Cmp.Lexicographic.{slice_cmp, nat_list_cmp_total}
use Rattle.std.specs.declared.cmp.Ordering.TheVariants.{Less, Greater}
use Rattle.std.proofs.lemmas.Bool.Decides.{nat_tests}
use Rattle.std.proofs.lemmas.Map.Keys.{Less-from_sorted}
use Rattle.digraph.specs.declared.edge.Edge.{Edge}
use Rattle.digraph.specs.Edges.{IsAscending, comes_before}

abbrev AreAscending : List (List ℕ) → Type 0
AreAscending names = IsStrictlySortedBy (slice_cmp nat_cmp) names

module _ {X : Type 0} (R : X → X → Type 0) (apart : (x y : X) → R x y → R y x → ⊥) where
  first_below : (x y : X) (xs : List X) → AllPairs R (x ∷ xs) → Contains xs y → R x y
  first_below x y xs pairs (k, l, is) = subst (R x) is (pairs 0 (suc k) y (omega arith) (omega arith))

  rest_pairs : (x : X) (xs : List X) → AllPairs R (x ∷ xs) → AllPairs R xs
  rest_pairs x xs pairs i j d lt l = pairs (suc i) (suc j) d (omega arith) (omega arith)

  deeper : (x y : X) (xs : List X) → Contains xs y → Contains (x ∷ xs) y
  deeper x y xs (k, l, is) = (suc k, omega arith, is)

  here : (x : X) (xs : List X) → Contains (x ∷ xs) x
  here x xs = (0, omega arith, refl)

  -- the first elements of the two lists are equal
  same_first : (x y : X) (xs ys : List X) → AllPairs R (x ∷ xs) → AllPairs R (y ∷ ys) → Contains (y ∷ ys) x → Contains (x ∷ xs) y → x ≡ y
  same_first x y xs ys a b (zero, l, is) has = sym is
  same_first x y xs ys a b (suc k, l, is) (zero, m, same) = same
  same_first x y xs ys a b (suc k, l, is) (suc j, m, same) =
      absurd (apart x y (first_below x y xs a (j, omega arith, same)) (first_below y x ys b (k, omega arith, is)))

  same_rest : (x y z : X) (xs ys : List X) → AllPairs R (x ∷ xs) → x ≡ y → Contains (y ∷ ys) z → Contains xs z → Contains ys z
  same_rest x y z xs ys a e (zero, l, is) has =
      let same : z ≡ x = sym is ∙ sym e in
      let below : R x x = subst (R x) same (first_below x z xs a has) in
      absurd (apart x x below below)
  same_rest x y z xs ys a e (suc k, l, is) has = (k, omega arith, is)

  -- two strictly sorted lists with the same elements are equal
  pub same_members : (xs ys : List X) → AllPairs R xs → AllPairs R ys → ((z : X) → Contains xs z → Contains ys z) → ((z : X) → Contains ys z → Contains xs z) → xs ≡ ys
  same_members [] [] a b to from = refl
  same_members [] (y ∷ ys) a b to from = absurd (let has = from y (here y ys) in let l : has.0 < 0 = has.1 in omega arith)
  same_members (x ∷ xs) [] a b to from = absurd (let has = to x (here x xs) in let l : has.0 < 0 = has.1 in omega arith)
  same_members (x ∷ xs) (y ∷ ys) a b to from =
      let e : x ≡ y = same_first x y xs ys a b (to x (here x xs)) (from y (here y ys)) in
      let rest : xs ≡ ys = same_members xs ys (rest_pairs x xs a) (rest_pairs y ys b)
      (λ z has. same_rest x y z xs ys a e (to z (deeper x z xs has)) has)
      (λ z has. same_rest y x z ys xs b (sym e) (from z (deeper y z ys has)) has) in
      ap (λ (h : X). h ∷ xs) e ∙ ap (λ (t : List X). y ∷ t) rest

both_less : (x y : List ℕ) → slice_cmp nat_cmp x y ≡ Less → slice_cmp nat_cmp y x ≡ Less → ⊥
both_less x y a b =
    let rotated : slice_cmp nat_cmp x y ≡ ordering_reverse (slice_cmp nat_cmp y x) = nat_list_cmp_total.antisymm x y in
    let bad : Less ≡ Greater = sym a ∙ rotated ∙ ap ordering_reverse b in
    cc

both_before : (p q : Edge) → IsTrue (comes_before p q) → IsTrue (comes_before q p) → ⊥
both_before p q a b = grind (arith, nat_tests)

name_pairs : (names : List (List ℕ)) → AreAscending names → AllPairs (λ x y. slice_cmp nat_cmp x y ≡ Less) names
name_pairs names h i j d lt l = Less-from_sorted (slice_cmp nat_cmp) names i j d h lt l

-- for lists of names and of edges
pub same_names : (a b : List (List ℕ)) → AreAscending a → AreAscending b → ((n : List ℕ) → Contains a n → Contains b n) → ((n : List ℕ) → Contains b n → Contains a n) → a ≡ b
same_names a b g h to from = same_members (λ x y. slice_cmp nat_cmp x y ≡ Less) both_less a b (name_pairs a g) (name_pairs b h) to from

pub same_edges : (a b : List Edge) → IsAscending a → IsAscending b → ((p : Edge) → Contains a p → Contains b p) → ((p : Edge) → Contains b p → Contains a p) → a ≡ b
same_edges a b g h to from = same_members (λ p q. IsTrue (comes_before p q)) both_before a b g h to from
