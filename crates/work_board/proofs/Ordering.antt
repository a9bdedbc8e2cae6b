-- The numbers of names, sorted by name.
use Rattle.std.proofs.Common.{◌≡◌, ◌<◌, ◌≤◌, ◌+◌, ℕ, zero, suc, Bool, false, List, [], ◌∷◌, length, get_or, refl, subst, sym, ◌∙◌, arith, inl, inr}
use Rattle.std.specs.Prelude.{All, Contains, Option}
use Rattle.std.specs.List.{flat_map, range_with_len}
use Rattle.std.proofs.lemmas.Bool.{cases_lt}
use Rattle.std.proofs.lemmas.List.{get_or_past}
use Rattle.std.proofs.lemmas.List.FromFn.{get_or-range_with_len, length-range_with_len}
use Rattle.std.proofs.lemmas.List.Sorted.{All-permutation, Contains-permutation}
use Rattle.work_board.specs.Graphs.{IsNameOrder}
use Rattle.work_board.specs.Cores.{share_at}

number_at : (n k d : ℕ) → k < n → get_or (range_with_len 0 n) k d ≡ k
number_at n k d l = let zero : 0 + k ≡ k = omega arith in get_or-range_with_len 0 n k d l ∙ zero

range_below : (n : ℕ) → All (λ v. v < n) (range_with_len 0 n)
range_below n k d l =
    let long : k < n = omega (arith, l, length-range_with_len 0 n) in
    subst (λ (v : ℕ). v < n) (sym (number_at n k d long)) long

-- they are numbers of names
pub order_within : (names : List (List ℕ)) (order : List ℕ) → IsNameOrder names order → All (λ v. v < length names) order
order_within names order is = All-permutation (λ (v : ℕ). v < length names) (range_with_len 0 (length names)) order is.all (range_below (length names))

-- the number of each name is among them
pub order_has : (names : List (List ℕ)) (order : List ℕ) → IsNameOrder names order → (v : ℕ) → v < length names → Contains order v
order_has names order is v lt =
    Contains-permutation (range_with_len 0 (length names)) order v is.all (v, omega (arith, lt, length-range_with_len 0 (length names)), number_at (length names) v v lt)

no_mark : (flags : List Bool) → ((v : ℕ) → 0 ≤ v → v < length flags → get_or flags v false ≡ false) → (v : ℕ) → get_or flags v false ≡ false
no_mark flags none v = elim (cases_lt v (length flags)) [
  | inl l ↦ none v (omega arith) l
  | inr past ↦ get_or_past flags v false past
]

-- if no flag is set, no part is shared
pub shares_none : {E X : Type 0} (f : E → X) (flags : List Bool) (entries : List (Option E)) (order : List ℕ) → ((v : ℕ) → 0 ≤ v → v < length flags → get_or flags v false ≡ false)
    → flat_map (share_at f flags entries) order ≡ []
shares_none f flags entries [] none = refl
shares_none f flags entries (v ∷ order) none = rw (no_mark flags none v) (shares_none f flags entries order none)
