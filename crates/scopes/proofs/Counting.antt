-- The number of elements of a list with a property.
use Rattle.std.proofs.Common.{◌≡◌, ℕ, suc, ◌+◌, ◌≤◌, ◌⊎◌, inl, inr, List, [], ◌∷◌, length, refl, ap, subst, arith}
use Rattle.scopes.specs.QualifiedUses.{Counts, none, one_more, other}

-- no element has the property
pub counts-none : {X : Type 0} (P : X → Type 0) (xs : List X) → ((x : X) → P x → ⊥) → Counts P xs 0
counts-none P [] no_one = none
counts-none P (x ∷ xs) no_one = other (no_one x) (counts-none P xs no_one)

-- two equivalent properties
pub counts-same : {X : Type 0} (P Q : X → Type 0) (xs : List X) (n : ℕ) → ((x : X) → P x → Q x) → ((x : X) → Q x → P x) → Counts P xs n → Counts Q xs n
counts-same P Q [] n to from none = none
counts-same P Q (x ∷ xs) n to from (one_more p c) = one_more (to x p) (counts-same P Q xs _ to from c)
counts-same P Q (x ∷ xs) n to from (other p c) = other (λ q. p (from x q)) (counts-same P Q xs n to from c)

-- a list has one count
pub counts-once : {X : Type 0} (P : X → Type 0) (xs : List X) (n m : ℕ) → Counts P xs n → Counts P xs m → n ≡ m
counts-once P [] n m none none = refl
counts-once P (x ∷ xs) n m (one_more p c) (one_more q d) = ap suc (counts-once P xs _ _ c d)
counts-once P (x ∷ xs) n m (one_more p c) (other q d) = absurd (q p)
counts-once P (x ∷ xs) n m (other p c) (one_more q d) = absurd (p q)
counts-once P (x ∷ xs) n m (other p c) (other q d) = counts-once P xs n m c d

-- the count is at most the length
pub counts-within : {X : Type 0} (P : X → Type 0) (xs : List X) (n : ℕ) → Counts P xs n → n ≤ length xs
counts-within P [] n none = omega arith
counts-within P (x ∷ xs) n (one_more p c) = let h = counts-within P xs _ c in omega (arith, h)
counts-within P (x ∷ xs) n (other p c) = let h = counts-within P xs n c in omega (arith, h)

-- if no element has both properties, their counts add up
pub counts-either : {X : Type 0} (P Q : X → Type 0) (xs : List X) (n m : ℕ) → ((x : X) → P x → Q x → ⊥) → Counts P xs n → Counts Q xs m → Counts (λ x. P x ⊎ Q x) xs (n + m)
counts-either P Q [] n m distinct none none = none
counts-either P Q (x ∷ xs) n m distinct (one_more p c) (one_more q d) = absurd (distinct x p q)
counts-either P Q (x ∷ xs) n m distinct (one_more {n = k} p c) (other q d) =
    subst (λ (s : ℕ). Counts (λ x. P x ⊎ Q x) (x ∷ xs) s) (omega arith) (one_more (inl p) (counts-either P Q xs k m distinct c d))
counts-either P Q (x ∷ xs) n m distinct (other p c) (one_more {n = k} q d) =
    subst (λ (s : ℕ). Counts (λ x. P x ⊎ Q x) (x ∷ xs) s) (omega arith) (one_more (inr q) (counts-either P Q xs n k distinct c d))
counts-either P Q (x ∷ xs) n m distinct (other p c) (other q d) =
    other (λ h. elim h [ inl a ↦ p a | inr b ↦ q b ]) (counts-either P Q xs n m distinct c d)
