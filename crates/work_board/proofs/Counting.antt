-- Counts of undelivered imports.
use Rattle.std.proofs.Common.{◌≡◌, ◌<◌, ◌≤◌, ◌+◌, ℕ, Bool, true, false, List, [], ◌∷◌, length, take, set, refl, sym, ap, ◌∙◌, arith, inl, inr, get_or}
use Rattle.std.specs.Prelude.{Contains, ◌==◌, cond, count_by, Option, None, Some, is_some}
use Rattle.std.proofs.lemmas.Bool.{cases_eq, cases_Bool, eq-eqb, eqb-true}
use Rattle.std.proofs.lemmas.List.{get_or-set_same, get_or-set_other}
use Rattle.std.proofs.lemmas.List.Sums.{count_by_more_yes, count_by_more_no, sum_by-append, sum_by-take-le}
use Rattle.work_board.specs.Graphs.{occurrences_in}
use Rattle.work_board.specs.Cores.{has_entry}
use Rattle.work_board.specs.Keeping.{undelivered_count}
use Rattle.work_board.proofs.Members.{first_or_later, first_member, later_member, no_member}

pub differ : (a b : ℕ) → (a ≡ b → ⊥) → (a == b) ≡ false
differ a b other = elim (cases_Bool (a == b)) [ inl is_so ↦ absurd (other (eqb-true a b is_so)) | inr is_not ↦ is_not ]

pub times_yes : (m : ℕ) (xs : List ℕ) (i : ℕ) → i < length xs → get_or xs i 0 ≡ m → occurrences_in m (take (i + 1) xs) ≡ occurrences_in m (take i xs) + 1
times_yes m xs i lt e = count_by_more_yes (λ x. x == m) xs i 0 lt (eq-eqb (get_or xs i 0) m e)

pub times_no : (m : ℕ) (xs : List ℕ) (i : ℕ) → i < length xs → (get_or xs i 0 ≡ m → ⊥) → occurrences_in m (take (i + 1) xs) ≡ occurrences_in m (take i xs)
times_no m xs i lt e = count_by_more_no (λ x. x == m) xs i 0 lt (differ (get_or xs i 0) m e)

pub times_take : (m : ℕ) (xs : List ℕ) (i : ℕ) → occurrences_in m (take i xs) ≤ occurrences_in m xs
times_take m xs i = sum_by-take-le _ xs i

pub count_cons : {X : Type 0} (p : X → Bool) (x : X) (xs : List X) → count_by p (x ∷ xs) ≡ cond (p x) 1 0 + count_by p xs
count_cons p x xs = let e = sum_by-append (λ y. cond (p y) 1 0) (x ∷ []) xs in omega (arith, e)

a_b_t : (a b t a' b' t' i j k : ℕ) → a ≡ i + a' → b ≡ j + b' → t ≡ k + t' → i + a' + (k + t') ≡ j + b' → a + t ≡ b
a_b_t a b t a' b' t' i j k p q r s = omega arith

module _ {E : Type 0} where
  pub open_zero : (entries : List (Option E)) (row : List ℕ) → undelivered_count entries row ≡ 0 → (w : ℕ) → Contains row w → has_entry entries w ≡ true
  open_zero entries [] e w h = no_member w h
  open_zero entries (x ∷ xs) e w h =
      elim (cases_Bool (has_entry entries x)) [
        | inl is_so ↦
            let f : 0 + undelivered_count entries xs ≡ 0 = rw is_so at e in
            let rest : undelivered_count entries xs ≡ 0 = omega arith in
            elim (first_or_later x xs w h) [
              | inl here ↦ ap (has_entry entries) (sym here) ∙ is_so
              | inr later ↦ open_zero entries xs rest w later
            ]
        | inr is_not ↦ let more : 1 + undelivered_count entries xs ≡ 0 = rw is_not at e in absurd (omega arith)
      ]

  pub open_none : (entries : List (Option E)) (row : List ℕ) → ((w : ℕ) → Contains row w → has_entry entries w ≡ true) → undelivered_count entries row ≡ 0
  open_none entries [] all = refl
  open_none entries (x ∷ xs) all =
      let there = all x (first_member x xs x refl) in
      let rest : undelivered_count entries xs ≡ 0 = open_none entries xs (λ w h. all w (later_member x xs w h)) in
      rw there (omega arith)

  pub open_delivered : (entries : List (Option E)) (n : ℕ) (e : E) (row : List ℕ) → n < length entries → has_entry entries n ≡ false
      → undelivered_count (set entries n (Some e)) row + occurrences_in n row ≡ undelivered_count entries row
  open_delivered entries n e [] lt none = refl
  open_delivered entries n e (x ∷ xs) lt none =
      let rest = open_delivered entries n e xs lt none in
      let d = count_cons (λ y. y == n) x xs in
      elim (cases_eq x n) [
        | inl same ↦
            let test : (x == n) ≡ true = eq-eqb x n same in
            let new : has_entry (set entries n (Some e)) x ≡ true = ap (has_entry (set entries n (Some e))) same ∙ ap is_some (get_or-set_same entries n (Some e) None lt) in
            let old : has_entry entries x ≡ false = ap (has_entry entries) same ∙ none in
            let a : undelivered_count (set entries n (Some e)) (x ∷ xs) ≡ 0 + undelivered_count (set entries n (Some e)) xs = rw new refl in
            let b : undelivered_count entries (x ∷ xs) ≡ 1 + undelivered_count entries xs = rw old refl in
            let t : occurrences_in n (x ∷ xs) ≡ 1 + occurrences_in n xs = d ∙ rw test refl in
            a_b_t (undelivered_count (set entries n (Some e)) (x ∷ xs)) (undelivered_count entries (x ∷ xs)) (occurrences_in n (x ∷ xs)) (undelivered_count (set entries n (Some e)) xs) (undelivered_count entries xs) (occurrences_in n xs) 0 1 1 a b t (omega (arith, rest))
        | inr other ↦
            let test : (x == n) ≡ false = differ x n other in
            let new : has_entry (set entries n (Some e)) x ≡ has_entry entries x = ap is_some (get_or-set_other entries n x (Some e) None other) in
            let a : undelivered_count (set entries n (Some e)) (x ∷ xs) ≡ cond (has_entry entries x) 0 1 + undelivered_count (set entries n (Some e)) xs = rw new refl in
            let t : occurrences_in n (x ∷ xs) ≡ 0 + occurrences_in n xs = d ∙ rw test refl in
            a_b_t (undelivered_count (set entries n (Some e)) (x ∷ xs)) (undelivered_count entries (x ∷ xs)) (occurrences_in n (x ∷ xs)) (undelivered_count (set entries n (Some e)) xs) (undelivered_count entries xs) (occurrences_in n xs) (cond (has_entry entries x) 0 1) (cond (has_entry entries x) 0 1) 0 a refl t (omega (arith, rest))
      ]
