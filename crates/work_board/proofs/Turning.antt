-- The lists of importers, which reverse the lists of imports.
use Rattle.std.proofs.Common.{◌≡◌, ◌<◌, ◌+◌, ℕ, Bool, List, [], ◌∷◌, ◌++◌, length, set, refl, sym, ap, ◌∙◌, subst, arith, inl, inr, get_or}
use Rattle.std.specs.Prelude.{◌==◌, cond, All}
use Rattle.std.proofs.lemmas.Bool.{cases_eq, cases_lt, eq-eqb}
use Rattle.std.proofs.lemmas.List.{get_or-set_same, get_or-set_other, get_or_append_left, length-append}
use Rattle.std.proofs.Math.Seq.{get_or-append_seam}
use Rattle.std.proofs.lemmas.List.Sums.{sum_by-append}
use Rattle.work_board.specs.Graphs.{list_at, occurrences_in}
use Rattle.work_board.proofs.Counting.{differ}

pub snoc_same : (m : ℕ) (r : List ℕ) → occurrences_in m (r ++ m ∷ []) ≡ occurrences_in m r + 1
snoc_same m r =
    let e = sum_by-append (λ x. cond (x == m) 1 0) r (m ∷ []) in
    let one : Bool → ℕ = λ b. cond b 1 0 in
    let t : one (m == m) ≡ 1 = ap one (eq-eqb m m refl) in
    omega (arith, e, t)

pub snoc_other : (m x : ℕ) (r : List ℕ) → (m ≡ x → ⊥) → occurrences_in x (r ++ m ∷ []) ≡ occurrences_in x r
snoc_other m x r other =
    let e = sum_by-append (λ y. cond (y == x) 1 0) r (m ∷ []) in
    let one : Bool → ℕ = λ b. cond b 1 0 in
    let t : one (m == x) ≡ 0 = ap one (differ m x other) in
    omega (arith, e, t)

pub snoc_within : (k m : ℕ) (r : List ℕ) → m < k → All (λ w. w < k) r → All (λ w. w < k) (r ++ m ∷ [])
snoc_within k m r lt all i d below =
    let l = length-append r (m ∷ []) in
    elim (cases_lt i (length r)) [
      | inl before ↦ let e : get_or (r ++ m ∷ []) i d ≡ get_or r i d = get_or_append_left r (m ∷ []) d i before in rw e (all i d before)
      | inr after ↦
          let at : i ≡ length r = omega arith in
          let e : get_or (r ++ m ∷ []) (length r) d ≡ m = get_or-append_seam r m [] d in
          rw (at, e) lt
    ]

module _ (rows new : List (List ℕ)) (at m : ℕ) (lt : at < length rows) (is : new ≡ set rows at (list_at rows at ++ m ∷ [])) where
  here : list_at new at ≡ list_at rows at ++ m ∷ []
  here = ap (λ rs. list_at rs at) is ∙ get_or-set_same rows at (list_at rows at ++ m ∷ []) [] lt

  there : (n : ℕ) → (n ≡ at → ⊥) → list_at new n ≡ list_at rows n
  there n other = ap (λ rs. list_at rs n) is ∙ get_or-set_other rows at n (list_at rows at ++ m ∷ []) [] other

  pub pushed_same : occurrences_in m (list_at new at) ≡ occurrences_in m (list_at rows at) + 1
  pushed_same = ap (occurrences_in m) here ∙ snoc_same m (list_at rows at)

  pub pushed_away : (n x : ℕ) → (n ≡ at → ⊥) → occurrences_in x (list_at new n) ≡ occurrences_in x (list_at rows n)
  pushed_away n x other = ap (occurrences_in x) (there n other)

  pub pushed_other : (n x : ℕ) → (x ≡ m → ⊥) → occurrences_in x (list_at new n) ≡ occurrences_in x (list_at rows n)
  pushed_other n x other =
      elim (cases_eq n at) [
        | inl same ↦ ap (λ k. occurrences_in x (list_at new k)) same ∙ ap (occurrences_in x) here ∙ snoc_other m x (list_at rows at) (λ e. other (sym e)) ∙ sym (ap (λ k. occurrences_in x (list_at rows k)) same)
        | inr away ↦ pushed_away n x away
      ]

  pub pushed_within : (k : ℕ) → m < k → ((n : ℕ) → All (λ w. w < k) (list_at rows n)) → (n : ℕ) → All (λ w. w < k) (list_at new n)
  pushed_within k below all n =
      elim (cases_eq n at) [
        | inl same ↦ subst (λ (r : List ℕ). All (λ w. w < k) r) (sym (ap (list_at new) same ∙ here)) (snoc_within k m (list_at rows at) below (all at))
        | inr away ↦ subst (λ (r : List ℕ). All (λ w. w < k) r) (sym (there n away)) (all n)
      ]
