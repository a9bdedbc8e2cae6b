-- Two sorted lists of names with equal elements, as often each, are equal.
use Rattle.std.proofs.Common.{◌≡◌, ℕ, suc, ◌+◌, ◌<◌, ◌≤◌, false, List, [], ◌∷◌, length, get_or, refl, sym, ap, ◌∙◌, arith, inl, inr, subst, Ordering}
use Rattle.std.specs.Prelude.{IsPermutation}
use Rattle.std.specs.Ordering.{is_eq, is_lt, nat_cmp, ordering_reverse}
use Rattle.std.specs.Cmp.Lexicographic.{slice_cmp, nat_list_cmp_total}
use Rattle.std.specs.Str.{bytes_eq}
use Rattle.std.specs.declared.cmp.Ordering.TheVariants.{Less, Equal, Greater}
use Rattle.std.proofs.lemmas.Bool.{cases_Bool, false≢true}
use Rattle.std.proofs.lemmas.List.MinMax.{ranks_by}
use Rattle.std.proofs.lemmas.List.Sorted.{sorted_far}
use Rattle.std.proofs.lemmas.Map.Text.{is_eq-slice_cmp}
use Rattle.std.proofs.lemmas.Slice.Eq.{bytes_eq-Decides}
use Rattle.ob_imports.specs.Names.{AreNamesSorted}
use Rattle.ob_imports.proofs.SameNames.{times, times_moved}

-- neither is below the other
pub neither : (a b : List ℕ) → (slice_cmp nat_cmp a b ≡ Less → ⊥) → (slice_cmp nat_cmp b a ≡ Less → ⊥) → a ≡ b
neither a b f g = by (slice_cmp nat_cmp a b) refl
  where
    by : (o : Ordering) → slice_cmp nat_cmp a b ≡ o → a ≡ b
    by Less e = absurd (f e)
    by Equal e = (bytes_eq-Decides a b).0 (sym (is_eq-slice_cmp a b) ∙ ap is_eq e)
    by Greater e = absurd (g (nat_list_cmp_total.antisymm b a ∙ ap ordering_reverse e))

not_less : (a b : List ℕ) → is_lt (slice_cmp nat_cmp a b) ≡ false → slice_cmp nat_cmp a b ≡ Less → ⊥
not_less a b f e = false≢true (sym f ∙ ap is_lt e)

place_from : (xs : List (List ℕ)) (name : List ℕ) → 1 ≤ times xs name → (k : ℕ) × (k < length xs) × (get_or xs k name ≡ name)
place_from [] name l = absurd (omega arith)
place_from (x ∷ xs) name l = elim (cases_Bool (bytes_eq x name)) [
  | inl t ↦ (0, omega arith, (bytes_eq-Decides x name).0 t)
  | inr f ↦ let later = place_from xs name (rw f at l) in (suc later.0, (let h : later.0 < length xs = later.1 in omega arith), later.2)
]

-- no element of a sorted list is below the first one
first_least : (x : List ℕ) (xs : List (List ℕ)) (name : List ℕ) → AreNamesSorted (x ∷ xs) → 1 ≤ times (x ∷ xs) name → slice_cmp nat_cmp name x ≡ Less → ⊥
first_least x xs name sorted some =
    let (k, within, is) = place_from (x ∷ xs) name some in
    let far : is_lt (slice_cmp nat_cmp (get_or (x ∷ xs) k name) x) ≡ false = sorted_far (λ a b. is_lt (slice_cmp nat_cmp a b)) (ranks_by nat_list_cmp_total (λ a. a)) (x ∷ xs) sorted 0 k name (omega arith) within in
    not_less name x (ap (λ (t : List ℕ). is_lt (slice_cmp nat_cmp t x)) (sym is) ∙ far)

times_own : (x : List ℕ) (xs : List (List ℕ)) → 1 ≤ times (x ∷ xs) x
times_own x xs = rw ((bytes_eq-Decides x x).1 refl) (omega arith)

times_rest : (x : List ℕ) (xs ys : List (List ℕ)) (name : List ℕ) → times (x ∷ xs) name ≡ times (x ∷ ys) name → times xs name ≡ times ys name
times_rest x xs ys name e = elim (cases_Bool (bytes_eq x name)) [
  | inl t ↦ let both = rw t at e in omega arith
  | inr f ↦ rw f at e
]

rest_in_order : (x : List ℕ) (xs : List (List ℕ)) → AreNamesSorted (x ∷ xs) → AreNamesSorted xs
rest_in_order x xs a k d low l =
    let e : suc k + 1 ≡ suc (k + 1) = omega arith in
    subst (λ (n : ℕ). is_lt (slice_cmp nat_cmp (get_or (x ∷ xs) n d) (get_or xs k d)) ≡ false) e (a (suc k) d (omega arith) (omega arith))

one_order : (xs ys : List (List ℕ)) → AreNamesSorted xs → AreNamesSorted ys → ((n : List ℕ) → times xs n ≡ times ys n) → xs ≡ ys
one_order [] [] a b same = refl
one_order [] (y ∷ ys) a b same = absurd (let e = same y in let l = times_own y ys in omega arith)
one_order (x ∷ xs) [] a b same = absurd (let e = same x in let l = times_own x xs in omega arith)
one_order (x ∷ xs) (y ∷ ys) a b same =
    let own_x = times_own x xs in
    let own_y = times_own y ys in
    let e : x ≡ y = neither x y
    (first_least y ys x b (let s = same x in omega arith))
    (first_least x xs y a (let s = same y in omega arith)) in
    let rest : xs ≡ ys = one_order xs ys (rest_in_order x xs a) (rest_in_order y ys b)
    (λ n. times_rest x xs ys n (same n ∙ ap (λ (z : List ℕ). times (z ∷ ys) n) (sym e))) in
    ap (λ (z : List ℕ). z ∷ xs) e ∙ ap (λ (zs : List (List ℕ)). y ∷ zs) rest

pub one_sorting : (old xs ys : List (List ℕ)) → IsPermutation old xs → IsPermutation old ys → AreNamesSorted xs → AreNamesSorted ys → xs ≡ ys
one_sorting old xs ys p q a b = one_order xs ys a b (λ n. times_moved old xs n p ∙ sym (times_moved old ys n q))
