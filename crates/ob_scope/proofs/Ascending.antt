-- Lists whose numbers ascend.
use Rattle.std.proofs.Common.{◌≡◌, ℕ, zero, suc, ◌<◌, ◌≤◌, List, [], ◌∷◌, Option, Some, None, slice_get, refl, subst, arith, filter_map}
use Rattle.module_table.specs.Order.{IsIncreasingBy}

-- the numbers of a list are increasing, all at least this one
abbrev pub Ascends : {X : Type 0} → (X → ℕ) → ℕ → List X → Type 0
Ascends f low [] = Unit {0}
Ascends f low (x ∷ xs) = (low ≤ f x) × Ascends f (suc (f x)) xs

lower : {X : Type 0} (f : X → ℕ) (low high : ℕ) (xs : List X) → low ≤ high → Ascends f high xs → Ascends f low xs
lower f low high [] h a = tt
lower f low high (x ∷ xs) h a = (let k : high ≤ f x = a.0 in omega arith, a.1)

-- the first of the members
above : {X : Type 0} (f : X → ℕ) (low : ℕ) (xs : List X) (i : ℕ) (x : X) → Ascends f low xs → slice_get xs i ≡ Some x → low ≤ f x
above f low [] i x a e = absurd cc
above f low (y ∷ ys) zero x a e = let s : y ≡ x = cc in subst (λ (z : _). low ≤ f z) s a.0
above f low (y ∷ ys) (suc i) x a e =
    let k : suc (f y) ≤ f x = above f (suc (f y)) ys i x a.1 e in
    let l : low ≤ f y = a.0 in
    omega arith

-- a later member has the greater number
pub ascending : {X : Type 0} (f : X → ℕ) (low : ℕ) (xs : List X) → Ascends f low xs → (i j : ℕ) (x y : X) → i < j → slice_get xs i ≡ Some x → slice_get xs j ≡ Some y → f x < f y
ascending f low [] a i j x y h p q = absurd cc
ascending f low (z ∷ zs) a i zero x y h p q = absurd (omega arith)
ascending f low (z ∷ zs) a zero (suc j) x y h p q =
    let s : z ≡ x = cc in
    let k : suc (f z) ≤ f y = above f (suc (f z)) zs j y a.1 q in
    subst (λ (w : _). f w < f y) s (omega arith)
ascending f low (z ∷ zs) a (suc i) (suc j) x y h p q = ascending f (suc (f z)) zs a.1 i j x y (omega arith) p q

pub ascends_by : {X : Type 0} (n : X → ℕ) (low : ℕ) (xs : List X) → IsIncreasingBy n xs → ((x : X) → slice_get xs 0 ≡ Some x → low ≤ n x) → Ascends n low xs
ascends_by n low [] a h = tt
ascends_by n low (x ∷ xs) a h = (h x refl, ascends_by n (suc (n x)) xs (λ i j y z l p q. a (suc i) (suc j) y z (omega arith) p q) (λ y e. (let l : n x < n y = a 0 1 x y (omega arith) refl e in omega arith)))

-- one more element that is selected
picked_one : {X Y : Type 0} (f : X → ℕ) (g : Y → ℕ) (h : X → Option Y) → ((x : X) (y : Y) → h x ≡ Some y → g y ≡ f x) →
    (low : ℕ) (x : X) (o : Option Y) (xs : List X) → low ≤ f x → h x ≡ o → Ascends g (suc (f x)) (filter_map h xs) → Ascends g low (filter_map h (x ∷ xs))
picked_one f g h same low x None xs l e rest = rw e (lower g low (suc (f x)) (filter_map h xs) (omega arith) rest)
picked_one f g h same low x (Some y) xs l e rest =
    let s : g y ≡ f x = same x y e in
    rw e (rw s l, rw s rest)

-- elements that are made from members, with the members' numbers, are in the members' order
pub picked : {X Y : Type 0} (f : X → ℕ) (g : Y → ℕ) (h : X → Option Y) → ((x : X) (y : Y) → h x ≡ Some y → g y ≡ f x) →
    (low : ℕ) (xs : List X) → Ascends f low xs → Ascends g low (filter_map h xs)
picked f g h same low [] a = tt
picked f g h same low (x ∷ xs) a = picked_one f g h same low x (h x) xs a.0 refl (picked f g h same (suc (f x)) xs a.1)
