-- The order of paths: by length, then lexicographically.
use Rattle.std.proofs.Common.{◌≡◌, ◌≢◌, ℕ, ◌≤◌, ◌<◌, ◌⊎◌, inl, inr, List, [], ◌∷◌, ◌++◌, length, refl, sym, ◌∙◌, ap, subst, arith, Ordering, length-append}
use Rattle.std.specs.Cmp.{nat_cmp_is}
use Rattle.std.specs.Cmp.Lexicographic.{slice_cmp, nat_list_cmp_total}
use Rattle.std.specs.Ordering.{nat_cmp, ordering_reverse, ordering_then}
use Rattle.std.specs.declared.cmp.Ordering.TheVariants.{Less, Equal, Greater}
use Rattle.std.proofs.lemmas.Map.Lookups.{exact_bytes}
use Rattle.digraph.specs.ShortestPaths.{IsLeastOf}

-- the first path is shorter than the second, or equally long and lexicographically smaller
abbrev pub IsBefore : List ℕ → List ℕ → Type 0
IsBefore p q = (length p < length q) ⊎ ((length p ≡ length q) × (slice_cmp nat_cmp p q ≡ Less))

-- or equal
abbrev pub IsUpTo : List ℕ → List ℕ → Type 0
IsUpTo p q = IsBefore p q ⊎ (p ≡ q)

then_less : (o a b : Ordering) → (a ≡ Less → b ≡ Less) → ordering_then o a ≡ Less → ordering_then o b ≡ Less
then_less Less a b rest is = refl
then_less Equal a b rest is = rest is
then_less Greater a b rest is = absurd (let e : Greater ≡ Less = is in cc)

less_append : (p q r s : List ℕ) → length p ≡ length q → slice_cmp nat_cmp p q ≡ Less → slice_cmp nat_cmp (p ++ r) (q ++ s) ≡ Less
less_append [] [] r s size less = absurd (let e : Equal ≡ Less = less in cc)
less_append [] (y ∷ q) r s size less = absurd (omega arith)
less_append (x ∷ p) [] r s size less = absurd (omega arith)
less_append (x ∷ p) (y ∷ q) r s size less = then_less (nat_cmp x y) (slice_cmp nat_cmp p q) (slice_cmp nat_cmp (p ++ r) (q ++ s)) (less_append p q r s (omega arith)) less

less_push : (p : List ℕ) (x y : ℕ) → x < y → slice_cmp nat_cmp (p ++ x ∷ []) (p ++ y ∷ []) ≡ Less
less_push [] x y lt = ap (λ (o : Ordering). ordering_then o Equal) (sym (nat_cmp_is x y Less lt))
less_push (z ∷ p) x y lt =
    ap (λ (o : Ordering). ordering_then o (slice_cmp nat_cmp (p ++ x ∷ []) (p ++ y ∷ []))) (sym (nat_cmp_is z z Equal refl)) ∙ less_push p x y lt

pub before_push_same : (p : List ℕ) (x y : ℕ) → x < y → IsBefore (p ++ x ∷ []) (p ++ y ∷ [])
before_push_same p x y lt = inr (length-append p (x ∷ []) ∙ sym (length-append p (y ∷ [])), less_push p x y lt)

pub before_push : (p q : List ℕ) (x y : ℕ) → IsBefore p q → IsBefore (p ++ x ∷ []) (q ++ y ∷ [])
before_push p q x y before =
    let left = length-append p (x ∷ []) in
    let right = length-append q (y ∷ []) in
    elim before [
      | inl shorter ↦ inl (omega arith)
      | inr (size, less) ↦ inr (omega arith, less_append p q (x ∷ []) (y ∷ []) size less)
    ]

before_append : (p q r : List ℕ) → IsBefore p q → IsBefore (p ++ r) (q ++ r)
before_append p q r before =
    let left = length-append p r in
    let right = length-append q r in
    elim before [
      | inl shorter ↦ inl (omega arith)
      | inr (size, less) ↦ inr (omega arith, less_append p q r r size less)
    ]

before_trans : (p q r : List ℕ) → IsBefore p q → IsBefore q r → IsBefore p r
before_trans p q r first second = elim first [
  | inl shorter ↦ elim second [
    | inl more ↦ inl (omega arith)
    | inr (size, less) ↦ inl (omega arith)
  ]
  | inr (size, less) ↦ elim second [
    | inl more ↦ inl (omega arith)
    | inr (same, smaller) ↦ inr (omega arith, nat_list_cmp_total.trans p q r less smaller)
  ]
]

pub up_to_append : (p q r : List ℕ) → IsUpTo p q → IsUpTo (p ++ r) (q ++ r)
up_to_append p q r up = elim up [
  | inl before ↦ inl (before_append p q r before)
  | inr e ↦ inr (ap (λ (l : List ℕ). l ++ r) e)
]

pub up_to_trans : (p q r : List ℕ) → IsUpTo p q → IsUpTo q r → IsUpTo p r
up_to_trans p q r first second = elim first [
  | inl before ↦ elim second [
    | inl more ↦ inl (before_trans p q r before more)
    | inr e ↦ inl (subst (IsBefore p) e before)
  ]
  | inr same ↦ subst (λ (l : List ℕ). IsUpTo l r) (sym same) second
]

-- a path that precedes or equals all others is the shortest one
up_to_long : (p q : List ℕ) → IsUpTo p q → length p ≤ length q
up_to_long p q up = elim up [
  | inl before ↦ elim before [ inl shorter ↦ omega arith | inr (size, less) ↦ omega arith ]
  | inr e ↦ (let size = ap length e in omega arith)
]

equal_itself : (p : List ℕ) → slice_cmp nat_cmp p p ≡ Equal
equal_itself [] = refl
equal_itself (x ∷ p) = ap (λ (o : Ordering). ordering_then o (slice_cmp nat_cmp p p)) (sym (nat_cmp_is x x Equal refl)) ∙ equal_itself p

up_to_least : (p q : List ℕ) → IsUpTo p q → length q ≡ length p → slice_cmp nat_cmp p q ≢ Greater
up_to_least p q up size greater = elim up [
  | inl before ↦ elim before [
    | inl shorter ↦ omega arith
    | inr (same, less) ↦ (let e : Less ≡ Greater = sym less ∙ greater in cc)
  ]
  | inr e ↦ (let bad : Equal ≡ Greater = sym (equal_itself p) ∙ ap (slice_cmp nat_cmp p) e ∙ greater in cc)
]

pub least_up_to : (Are : List ℕ → Type 0) (p : List ℕ) → Are p → ((q : List ℕ) → Are q → IsUpTo p q) → IsLeastOf Are p
least_up_to Are p is up = record {
  is_chain = is;
  fewest = λ q are. up_to_long p q (up q are);
  least = λ q are size. up_to_least p q (up q are) size;
}

-- ---- the smallest list is unique

neither : (o p : Ordering) → o ≡ ordering_reverse p → o ≢ Greater → p ≢ Greater → o ≡ Equal
neither o Less e first second = absurd (first e)
neither o Equal e first second = e
neither o Greater e first second = absurd (second refl)

pub one_least : (Are : List ℕ → Type 0) (a b : List ℕ) → IsLeastOf Are a → IsLeastOf Are b → a ≡ b
one_least Are a b first second =
    let low = first.fewest b second.is_chain in
    let high = second.fewest a first.is_chain in
    let before = first.least b second.is_chain (omega arith) in
    let after = second.least a first.is_chain (omega arith) in
    exact_bytes a b (neither (slice_cmp nat_cmp a b) (slice_cmp nat_cmp b a) (nat_list_cmp_total.antisymm a b) before after)
