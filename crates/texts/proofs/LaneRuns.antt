-- From the lanes of one SIMD load to a prefix of bytes.
use Rattle.std.proofs.Common.{◌≡◌, ℕ, zero, suc, ◌+◌, ◌%◌, ◌^◌, ◌<◌, ◌≤◌, eqb, Bool, true, false, cond, not, List, [], ◌∷◌, map, length, take, drop, get_or, replicate, Fits, w8, refl, sym, ap, ap₂, ◌∙◌, arith}
use Rattle.std.proofs.lemmas.Bool.{agree_below, agree_below_at}
use Rattle.std.proofs.lemmas.Simd.{map-map, zip2-map, mask_l-mod, length-chunk, chunk-fits, first_set_mask_l}
use Rattle.std.proofs.lemmas.List.{length-map}
use Rattle.std.specs.List.{prefix_len}
use lib.Count.{count_trailing_zeros}
use lib.Lanes.{Each1, chunk, zip2, mask_l, top}

-- an operation on two vectors that were computed lane by lane
pub joined : (h : ℕ → ℕ → ℕ) (f g : ℕ → ℕ) (v : List ℕ) {a b : List ℕ} → a ≡ map f v → b ≡ map g v → zip2 h a b ≡ map (λ x. h (f x) (g x)) v
joined h f g v p q = ap₂ (zip2 h) p q ∙ zip2-map h f g v

splat_left : (h : ℕ → ℕ → ℕ) (y : ℕ) (xs : List ℕ) → zip2 h (replicate (length xs) y) xs ≡ map (h y) xs
splat_left h y [] = refl
splat_left h y (x ∷ xs) = ap (λ r. h y x ∷ r) (splat_left h y xs)

-- a comparison whose sides are changed
pub from_splat : (h : ℕ → ℕ → ℕ) (v : List ℕ) (n y : ℕ) → length v ≡ n → zip2 h (replicate n y) v ≡ map (h y) v
from_splat h v n y long = ap (λ k. zip2 h (replicate k y) v) (sym long) ∙ splat_left h y v

same_run : (p q : ℕ → Bool) (xs : List ℕ) → Each1 (Fits w8) xs → agree_below p q 256 ≡ true → prefix_len p xs ≡ prefix_len q xs
same_run p q [] fits all = refl
same_run p q (x ∷ xs) fits all = rw (agree_below_at p q 256 x all fits.0.fits, same_run p q xs fits.1 all) refl

-- how many lanes precede the first flagged one, if the flags are set where the prefix ends
pub run_is : (passes : ℕ → Bool) (d : List ℕ) (i : ℕ) (z : List ℕ) → i + 16 ≤ length d → ((k : ℕ) → Fits w8 (get_or d k 0))
    → (f : ℕ → ℕ) → z ≡ map f (chunk i 16 d) → agree_below (λ x. not (top 7 (f x))) passes 256 ≡ true
    → cond (eqb (mask_l (map (top 7) z) % 2 ^ 64) 0) 16 (count_trailing_zeros 64 (mask_l (map (top 7) z) % 2 ^ 64)) ≡ prefix_len passes (take 16 (drop i d))
run_is passes d i z room fits f lanes all =
    let v = chunk i 16 d in
    let long = length-chunk i 16 d room in
    let bits = λ (x : ℕ). top 7 (f x) in
    let mask = ap (λ l. mask_l l % 2 ^ 64) (ap (map (top 7)) lanes ∙ map-map (top 7) f v) ∙ mask_l-mod (map bits v) 64 (omega (arith, length-map v bits)) in
    ap (λ m. cond (eqb m 0) 16 (count_trailing_zeros 64 m)) mask ∙ (first_set_mask_l bits v 16 long (omega arith) ∙ same_run (λ x. not (bits x)) passes v (chunk-fits w8 i 16 d fits) all)

short_by : (p : ℕ → Bool) (n : ℕ) (x : ℕ) (xs : List ℕ) (b : Bool) → p x ≡ b → n ≤ length xs → (prefix_len p (take n xs) < n → prefix_len p (take n xs) ≡ prefix_len p xs)
    → cond b (1 + prefix_len p (take n xs)) 0 < suc n → cond b (1 + prefix_len p (take n xs)) 0 ≡ cond b (1 + prefix_len p xs) 0
short_by p n x xs true e long rest short = ap (λ k. 1 + k) (rest (omega (arith, short)))
short_by p n x xs false e long rest short = refl

-- a prefix that ends within the first n elements is the whole prefix
pub short_run : (p : ℕ → Bool) (n : ℕ) (xs : List ℕ) → n ≤ length xs → prefix_len p (take n xs) < n → prefix_len p (take n xs) ≡ prefix_len p xs
short_run p zero xs long short = absurd (omega (arith, short))
short_run p (suc n) [] long short = absurd (omega (arith, long))
short_run p (suc n) (x ∷ xs) long short = short_by p n x xs (p x) refl (omega (arith, long)) (short_run p n xs (omega (arith, long))) short
