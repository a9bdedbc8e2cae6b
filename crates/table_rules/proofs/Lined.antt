-- Entries whose numbers increase from one bound to another.
use Rattle.std.proofs.Common.{◌≡◌, ℕ, zero, suc, ◌+◌, ◌<◌, ◌≤◌, List, [], ◌∷◌, ◌++◌, Some, None, ap, arith}
use Rattle.std.specs.Prelude.{slice_get}
use Rattle.module_table.specs.Order.{IsIncreasingBy, IsMonotoneBy}

-- each number is at least its bound, which the number before it determines
pub Lined : {X : Type 0} → (X → ℕ) → (ℕ → ℕ) → ℕ → ℕ → List X → Type 0
Lined n next a b [] = a ≤ b
Lined n next a b (x ∷ xs) = (a ≤ n x) × Lined n next (next (n x)) b xs

module _ {X : Type 0} (n : X → ℕ) (next : ℕ → ℕ) where
  pub lower : (a b c : ℕ) (xs : List X) → a ≤ b → Lined n next b c xs → Lined n next a c xs
  unfolding Lined
  lower a b c [] l h = omega (arith, l, h)
  lower a b c (x ∷ xs) l h = ((let u : b ≤ n x = h.0 in omega (arith, l, u)), h.1)

  pub higher : (a b c : ℕ) (xs : List X) → b ≤ c → Lined n next a b xs → Lined n next a c xs
  unfolding Lined
  higher a b c [] l h = omega (arith, l, h)
  higher a b c (x ∷ xs) l h = (h.0, higher (next (n x)) b c xs l h.1)

  pub lined_both : (a b c : ℕ) (xs ys : List X) → Lined n next a b xs → Lined n next b c ys → Lined n next a c (xs ++ ys)
  unfolding Lined
  lined_both a b c [] ys f g = lower a b c ys f g
  lined_both a b c (x ∷ xs) ys f g = (f.0, lined_both (next (n x)) b c xs ys f.1 g)

  pub lined_none : (k : ℕ) → Lined n next k (k + 1) []
  unfolding Lined
  lined_none k = omega arith

  pub lined_end : (a b : ℕ) → a ≤ b → Lined n next a b []
  unfolding Lined
  lined_end a b l = l

module _ {X : Type 0} (n : X → ℕ) where
  pub lined_one : (k : ℕ) (x : X) → n x ≡ k → Lined n suc k (k + 1) (x ∷ [])
  unfolding Lined
  lined_one k x e = (omega (arith, e), omega (arith, e))

  pub lined_same : (k : ℕ) (x : X) (xs : List X) → n x ≡ k → Lined n (λ i. i) k (k + 1) xs → Lined n (λ i. i) k (k + 1) (x ∷ xs)
  unfolding Lined
  lined_same k x xs e f = (omega (arith, e), lower n (λ i. i) (n x) k (k + 1) xs (omega (arith, e)) f)

  pub lined_on : (k : ℕ) (x : X) → n x ≡ k → Lined n (λ i. i) k k (x ∷ [])
  unfolding Lined
  lined_on k x e = (omega (arith, e), omega (arith, e))

  -- strictly increasing
  above : (a b : ℕ) (xs : List X) (i : ℕ) (x : X) → Lined n suc a b xs → slice_get xs i ≡ Some x → a ≤ n x
  unfolding Lined
  above a b [] i x h g = absurd (let f : None ≡ Some x = g in cc)
  above a b (y ∷ ys) zero x h g = let f : Some y ≡ Some x = g in let e : y ≡ x = cc in let s : n y ≡ n x = ap n e in let u : a ≤ n y = h.0 in omega (arith, s, u)
  above a b (y ∷ ys) (suc i) x h g = let v : suc (n y) ≤ n x = above (suc (n y)) b ys i x h.1 g in let u : a ≤ n y = h.0 in omega (arith, u, v)

  ascends_behind : (b : ℕ) (z : X) (zs : List X) → IsIncreasingBy n zs → Lined n suc (suc (n z)) b zs → (i j : ℕ) (x y : X) → i < j → slice_get (z ∷ zs) i ≡ Some x → slice_get (z ∷ zs) j ≡ Some y → n x < n y
  ascends_behind b z zs rest h i zero x y l p q = absurd (omega (arith, l))
  ascends_behind b z zs rest h zero (suc j) x y l p q =
      let f : Some z ≡ Some x = p in
      let e : z ≡ x = cc in
      let s : n z ≡ n x = ap n e in
      let v : (suc (n z)) ≤ n y = above (suc (n z)) b zs j y h q in
      omega (arith, s, v)
  ascends_behind b z zs rest h (suc i) (suc j) x y l p q = rest i j x y (omega (arith, l)) p q

  pub ascends : (a b : ℕ) (xs : List X) → Lined n suc a b xs → IsIncreasingBy n xs
  unfolding Lined
  ascends a b [] h = λ i j x y l p q. absurd (let f : None ≡ Some x = p in cc)
  ascends a b (z ∷ zs) h = ascends_behind b z zs (ascends (suc (n z)) b zs h.1) h.1

  -- or not strictly
  from : (a b : ℕ) (xs : List X) (i : ℕ) (x : X) → Lined n (λ m. m) a b xs → slice_get xs i ≡ Some x → a ≤ n x
  unfolding Lined
  from a b [] i x h g = absurd (let f : None ≡ Some x = g in cc)
  from a b (y ∷ ys) zero x h g = let f : Some y ≡ Some x = g in let e : y ≡ x = cc in let s : n y ≡ n x = ap n e in let u : a ≤ n y = h.0 in omega (arith, s, u)
  from a b (y ∷ ys) (suc i) x h g = let v : n y ≤ n x = from (n y) b ys i x h.1 g in let u : a ≤ n y = h.0 in omega (arith, u, v)

  rises_behind : (b : ℕ) (z : X) (zs : List X) → IsMonotoneBy n zs → Lined n (λ m. m) (n z) b zs → (i j : ℕ) (x y : X) → i < j → slice_get (z ∷ zs) i ≡ Some x → slice_get (z ∷ zs) j ≡ Some y → n x ≤ n y
  rises_behind b z zs rest h i zero x y l p q = absurd (omega (arith, l))
  rises_behind b z zs rest h zero (suc j) x y l p q =
      let f : Some z ≡ Some x = p in
      let e : z ≡ x = cc in
      let s : n z ≡ n x = ap n e in
      let v : (n z) ≤ n y = from (n z) b zs j y h q in
      omega (arith, s, v)
  rises_behind b z zs rest h (suc i) (suc j) x y l p q = rest i j x y (omega (arith, l)) p q

  pub rises : (a b : ℕ) (xs : List X) → Lined n (λ m. m) a b xs → IsMonotoneBy n xs
  unfolding Lined
  rises a b [] h = λ i j x y l p q. absurd (let f : None ≡ Some x = p in cc)
  rises a b (z ∷ zs) h = rises_behind b z zs (rises (n z) b zs h.1) h.1
