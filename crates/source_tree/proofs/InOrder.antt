-- Lists that are sorted by byte strings, tested by adjacent elements.
use Rattle.std.proofs.Common.{◌≡◌, ℕ, ◌+◌, ◌<◌, Bool, true, false, List, [], ◌∷◌, length, get_or, map, refl, sym, ap, ◌∙◌, arith, Ordering}
use Rattle.std.specs.Prelude.{◌↔◌, IsTrue}
use Rattle.std.specs.Cmp.Lexicographic.{slice_cmp, nat_list_cmp_total}
use Rattle.std.specs.List.{AllAdjacentBelow, IsAllAdjacentAnswer}
use Rattle.std.specs.List.Sorted.{IsStrictlySortedBy}
use Rattle.std.specs.Ordering.{is_lt, nat_cmp}
use Rattle.std.specs.declared.cmp.Ordering.TheVariants.{Less, Equal, Greater}
use Rattle.std.proofs.lemmas.Bool.{false≢true}
use Rattle.std.proofs.lemmas.List.{get_or-map, length-map}
use Rattle.std.proofs.lemmas.Map.Keys.{Less-from_sorted, sorted_from_all_adjacent}

less_from : (o : Ordering) → true ≡ is_lt o → o ≡ Less
less_from Less e = refl
less_from Equal e = absurd (false≢true (sym e))
less_from Greater e = absurd (false≢true (sym e))

-- one string is below the other, as a test returns
abbrev pub IsBelow : {X : Type 0} → (X → List ℕ) → X → X → Bool → Type 0
IsBelow text x y b = b ≡ is_lt (slice_cmp nat_cmp (text x) (text y))

ascends : {X : Type 0} (text : X → List ℕ) (xs : List X) → AllAdjacentBelow (λ x y. IsBelow text x y true) xs (length xs) → IsStrictlySortedBy (slice_cmp nat_cmp) (map text xs)
ascends text [] h = sorted_from_all_adjacent nat_list_cmp_total [] [] (λ k l. absurd (omega arith))
ascends text (x ∷ xs) h = sorted_from_all_adjacent nat_list_cmp_total (map text (x ∷ xs)) [] (λ k l.
    let same = length-map (x ∷ xs) text in
    let within : k + 1 < length (x ∷ xs) = omega (arith, l, same) in
    rw (get_or-map text (x ∷ xs) k x [] (omega arith), get_or-map text (x ∷ xs) (k + 1) x [] within) (less_from _ (h k x within)))

does_not_ascend : {X : Type 0} (text : X → List ℕ) (xs : List X) (k : ℕ) → k + 1 < length xs → ((d : X) → IsBelow text (get_or xs k d) (get_or xs (k + 1) d) false)
    → IsStrictlySortedBy (slice_cmp nat_cmp) (map text xs) → ⊥
does_not_ascend text [] k within fails up = absurd (omega arith)
does_not_ascend text (x ∷ xs) k within fails up =
    let same = length-map (x ∷ xs) text in
    let less = Less-from_sorted (slice_cmp nat_cmp) (map text (x ∷ xs)) k (k + 1) [] up (omega arith) (omega (arith, within, same)) in
    let here : slice_cmp nat_cmp (text (get_or (x ∷ xs) k x)) (text (get_or (x ∷ xs) (k + 1) x)) ≡ Less =
    rw (← get_or-map text (x ∷ xs) k x [] (omega arith), ← get_or-map text (x ∷ xs) (k + 1) x [] within) less in
    false≢true (fails x ∙ ap is_lt here)

-- the test of all adjacent elements decides whether the list is sorted
pub ascend_both_ways : {X : Type 0} (text : X → List ℕ) (xs : List X) (r : Bool) → IsAllAdjacentAnswer (IsBelow text) xs r
    → IsTrue r ↔ IsStrictlySortedBy (slice_cmp nat_cmp) (map text xs)
ascend_both_ways text xs true h = ((λ _. ascends text xs h), (λ _. refl))
ascend_both_ways text xs false h = ((λ e. absurd (false≢true e)), (λ up. absurd (does_not_ascend text xs h.0 h.1 h.2 up)))
