-- Sums over the numbers below n.
use Rattle.std.proofs.Common.{◌≡◌, ◌≢◌, ℕ, zero, suc, ◌+◌, ◌*◌, ◌<◌, ◌≤◌, ◌⊎◌, inl, inr, ◌==◌, if◌then◌else◌, refl, sym, ap, arith}
use Rattle.std.proofs.lemmas.Bool.{cases_eq}
use Rattle.cut_preflow.specs.Total.{total}
use Rattle.cut_preflow.proofs.Choices.{choice_same, choice_other}

-- below n + 1 is below n or n itself
pub total-same : (n : ℕ) (g h : ℕ → ℕ) → ((i : ℕ) → i < n → g i ≡ h i) → total n g ≡ total n h
total-same zero g h e = refl
total-same (suc n) g h e =
    let ih : total n g ≡ total n h = total-same n g h (λ i l. e i (omega arith)) in
    let here : g n ≡ h n = e n (omega arith) in
    omega arith

pub total-le : (n : ℕ) (g h : ℕ → ℕ) → ((i : ℕ) → i < n → g i ≤ h i) → total n g ≤ total n h
total-le zero g h e = omega arith
total-le (suc n) g h e =
    let ih : total n g ≤ total n h = total-le n g h (λ i l. e i (omega arith)) in
    let here : g n ≤ h n = e n (omega arith) in
    omega arith

pub total-add : (n : ℕ) (g h : ℕ → ℕ) → total n (λ i. g i + h i) ≡ total n g + total n h
total-add zero g h = refl
total-add (suc n) g h = omega (arith, total-add n g h)

pub total-zero : (n : ℕ) (g : ℕ → ℕ) → ((i : ℕ) → i < n → g i ≡ 0) → total n g ≡ 0
total-zero zero g e = refl
total-zero (suc n) g e =
    let ih : total n g ≡ 0 = total-zero n g (λ i l. e i (omega arith)) in
    let here : g n ≡ 0 = e n (omega arith) in
    omega arith

pub term-le-total : (n : ℕ) (g : ℕ → ℕ) (i : ℕ) → i < n → g i ≤ total n g
term-le-total zero g i l = omega arith
term-le-total (suc n) g i l =
    elim (cases_eq i n) [
      | inl e ↦ (let here : g i ≡ g n = ap g e in omega arith)
      | inr ne ↦ (let ih : g i ≤ total n g = term-le-total n g i (omega arith) in omega arith)
    ]

pub total-at_most : (n : ℕ) (g : ℕ → ℕ) (c : ℕ) → ((i : ℕ) → i < n → g i ≤ c) → total n g ≤ n * c
total-at_most zero g c e = omega arith
total-at_most (suc n) g c e =
    let ih : total n g ≤ n * c = total-at_most n g c (λ i l. e i (omega arith)) in
    let here : g n ≤ c = e n (omega arith) in
    omega arith

-- two sums that differ at one index alone
pub total-change : (n : ℕ) (g h : ℕ → ℕ) (i : ℕ) → i < n → ((j : ℕ) → j < n → j ≢ i → g j ≡ h j) → total n g + h i ≡ total n h + g i
total-change zero g h i l e = omega arith
total-change (suc n) g h i l e =
    elim (cases_eq i n) [
      | inl q ↦
          (let rest : total n g ≡ total n h = total-same n g h (λ j lj. e j (omega arith) (omega arith)) in
          let a : g i ≡ g n = ap g q in
          let b : h i ≡ h n = ap h q in
          omega arith)
      | inr ne ↦
          (let ih : total n g + h i ≡ total n h + g i = total-change n g h i (omega arith) (λ j lj. e j (omega arith)) in
          let here : g n ≡ h n = e n (omega arith) (omega arith) in
          omega arith)
    ]

-- a sum with one term alone
pub total-one : (n : ℕ) (g : ℕ → ℕ) (i : ℕ) → i < n → ((j : ℕ) → j < n → j ≢ i → g j ≡ 0) → total n g ≡ g i
total-one n g i l e =
    omega (arith, total-change n g (λ _. 0) i l e, total-zero n (λ _. 0) (λ _ _. refl))

pub total-swap : (n m : ℕ) (g : ℕ → ℕ → ℕ) → total n (λ v. total m (λ i. g v i)) ≡ total m (λ i. total n (λ v. g v i))
total-swap zero m g = sym (total-zero m (λ i. 0) (λ _ _. refl))
total-swap (suc n) m g =
    let ih : total n (λ v. total m (λ i. g v i)) ≡ total m (λ i. total n (λ v. g v i)) = total-swap n m g in
    let sums : total m (λ i. total n (λ v. g v i) + g n i) ≡ total m (λ i. total n (λ v. g v i)) + total m (λ i. g n i) =
    total-add m (λ i. total n (λ v. g v i)) (λ i. g n i) in
    omega arith

-- where no term is above its partner and the sums are as large, each term is its partner
pub total-tight : (n : ℕ) (g h : ℕ → ℕ) → ((i : ℕ) → i < n → g i ≤ h i) → total n h ≤ total n g → (i : ℕ) → i < n → g i ≡ h i
total-tight zero g h e big i l = omega arith
total-tight (suc n) g h e big i l =
    let below : total n g ≤ total n h = total-le n g h (λ j lj. e j (omega arith)) in
    let top : g n ≤ h n = e n (omega arith) in
    elim (cases_eq i n) [
      | inl q ↦
          (let a : g i ≡ g n = ap g q in
          let b : h i ≡ h n = ap h q in
          omega arith)
      | inr ne ↦ total-tight n g h (λ j lj. e j (omega arith)) (omega arith) i (omega arith)
    ]

-- a term that is 0, or else each of the n terms is above 0 and the sum is at least n
pub total-search : (n : ℕ) (g : ℕ → ℕ) → ((i : ℕ) × (i < n) × (g i ≡ 0)) ⊎ (n ≤ total n g)
total-search zero g = inr (omega arith)
total-search (suc n) g =
    elim (total-search n g) [
      | inl w ↦ inl (w.0, (omega arith), w.2)
      | inr le ↦ elim (cases_eq (g n) 0) [ inl z ↦ inl (n, (omega arith), z) | inr ne ↦ inr (omega arith) ]
    ]

-- a number is at most one of n numbers in a row
one_mark : (x low n : ℕ) → total n (λ j. if x == low + j then 1 else 0) ≤ 1
one_mark x low zero = omega arith
one_mark x low (suc n) =
    elim (cases_eq x (low + n)) [
      | inl e ↦
          (let rest : total n (λ j. if x == low + j then 1 else 0) ≡ 0 =
          total-zero n (λ j. if x == low + j then 1 else 0) (λ j l. choice_other x (low + j) 1 0 (omega arith)) in
          let here = choice_same x (low + n) 1 0 e in
          omega arith)
      | inr ne ↦
          (let here = choice_other x (low + n) 1 0 ne in
          omega (arith, one_mark x low n))
    ]

-- of the n + 1 numbers from low on, n labels miss one
pub total-gap : (n : ℕ) (d : ℕ → ℕ) (low : ℕ) → (k : ℕ) × (low ≤ k) × (k ≤ low + n) × ((v : ℕ) → v < n → d v ≢ k)
total-gap n d low =
    elim (total-search (n + 1) (λ j. total n (λ v. if d v == low + j then 1 else 0))) [
      | inl w ↦ (low + w.0, (omega arith), (omega (arith, w.1)), (λ v l e. missed w.0 w.2 v l e))
      | inr le ↦ absurd (too_many le)
    ]
  where
    missed : (j : ℕ) → total n (λ v. if d v == low + j then 1 else 0) ≡ 0 → (v : ℕ) → v < n → d v ≢ low + j
    missed j z v l e =
        let one = choice_same (d v) (low + j) 1 0 e in
        omega (arith, term-le-total n (λ v. if d v == low + j then 1 else 0) v l)

    too_many : n + 1 ≤ total (n + 1) (λ j. total n (λ v. if d v == low + j then 1 else 0)) → ⊥
    too_many le =
        let swapped = total-swap (n + 1) n (λ j v. if d v == low + j then 1 else 0) in
        let few : total n (λ v. total (n + 1) (λ j. if d v == low + j then 1 else 0)) ≤ n * 1 =
        total-at_most n (λ v. total (n + 1) (λ j. if d v == low + j then 1 else 0)) 1 (λ v _. one_mark (d v) low (n + 1)) in
        omega (arith, swapped)

-- a part of the terms so far, with the next term, is within the whole sum
pub part_le-total : (n : ℕ) (g h : ℕ → ℕ) (i : ℕ) → i < n → ((j : ℕ) → g j ≤ h j) → total i g + h i ≤ total n h
part_le-total zero g h i l le = omega arith
part_le-total (suc n) g h i l le = elim (cases_eq i n) [
  | inl e ↦
      (let same = ap (λ x. total x g + h x) e in
      let below : total n g ≤ total n h = total-le n g h (λ j _. le j) in
      omega arith)
  | inr ne ↦ (let ih : total i g + h i ≤ total n h = part_le-total n g h i (omega arith) le in omega arith)
]
