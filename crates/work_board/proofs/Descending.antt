-- From an undelivered module a path of undelivered imports leads to a module that is ready.
use Rattle.std.proofs.Common.{◌≡◌, ◌<◌, ◌+◌, ℕ, zero, suc, true, false, List, [], ◌∷◌, ◌++◌, length, refl, sym, ap, ◌∙◌, subst, arith, inl, inr, length-append}
use Rattle.std.specs.Prelude.{Contains, ◌⊎◌, nat_eq}
use Rattle.std.specs.List.{IsDistinct, list_any}
use Rattle.std.proofs.lemmas.Bool.{cases_Bool, cases_lt}
use Rattle.std.proofs.lemmas.Cmp.{nat_eq_equiv}
use Rattle.std.proofs.lemmas.List.Elements.{Contains-append_cases}
use Rattle.std.proofs.lemmas.Map.Keys.{IsDistinct-push}
use Rattle.std.proofs.lemmas.Map.Steps.{length-le_from_distinct_below}
use Rattle.std.proofs.lemmas.Map.Views.{exact_unsigned_eq, Contains-from_any}
use Rattle.work_board.specs.Graphs.{list_at, IsAcyclic, IsChain, IsGraph, ImportsModule, Modules, Reaches}
use Rattle.work_board.specs.Cores.{has_entry, is_claimed, Core, IsIdle, IsOver, IsReady}
use Rattle.work_board.proofs.Delivering.{member_below}
use Rattle.work_board.proofs.Members.{first_member, first_or_later, later_member, no_member, one_member}

none_twice : IsDistinct nat_eq []
unfolding IsDistinct
none_twice = tt

-- a path with one more import
chain_more : (imports : List (List ℕ)) (m : ℕ) (more : List ℕ) (v w : ℕ) → IsChain imports m more v → ImportsModule imports v w → IsChain imports m (more ++ v ∷ []) w
chain_more imports m [] v w chain leads = (chain, leads)
chain_more imports m (n ∷ more) v w chain leads = (chain.0, chain_more imports n more v w chain.1 leads)

module _ {E : Type 0} (g : Modules) (graph : IsGraph g) (acyclic : IsAcyclic g.imports) (c : Core E) (size : length c.entries ≡ length g.names) (idle : IsIdle c) (none : (n : ℕ) → IsReady g.imports c n → ⊥) where
  -- all modules of a list are delivered, or one isn't
  open_in : (row : List ℕ) → ((w : ℕ) → Contains row w → has_entry c.entries w ≡ true) ⊎ ((w : ℕ) × Contains row w × (has_entry c.entries w ≡ false))
  open_in [] = inl (λ w h. no_member w h)
  open_in (x ∷ row) = elim (cases_Bool (has_entry c.entries x)) [
    | inl there ↦ elim (open_in row) [
      | inl all ↦ inl (λ w h. elim (first_or_later x row w h) [
        | inl here ↦ ap (has_entry c.entries) (sym here) ∙ there
        | inr later ↦ all w later
      ])
      | inr found ↦ inr (found.0, later_member x row found.0 found.1, found.2)
    ]
    | inr missing ↦ inr (x, first_member x row x refl, missing)
  ]

  unclaimed : (n : ℕ) → has_entry c.entries n ≡ false → is_claimed c n ≡ false
  unclaimed n missing = elim (cases_Bool (is_claimed c n)) [
    | inl claimed ↦ let there : has_entry c.entries n ≡ true = idle n claimed in absurd (let bad : true ≡ false = sym there ∙ missing in cc)
    | inr is_not ↦ is_not
  ]

  next : (n : ℕ) → n < length g.names → has_entry c.entries n ≡ false → (w : ℕ) × ImportsModule g.imports n w × (has_entry c.entries w ≡ false)
  next n lt missing = elim (open_in (list_at g.imports n)) [
    | inl all ↦ absurd (none n (record { within = omega arith; unclaimed = unclaimed n missing; imported = all }))
    | inr found ↦ found
  ]

  -- the visited modules differ, and each reaches the current one, so at most as many were visited as there are
  descend : (fuel : ℕ) (met : List ℕ) → IsDistinct nat_eq met → (v : ℕ) → ((x : ℕ) → Contains met x → (x < length g.names) × Reaches g.imports x v)
      → v < length g.names → has_entry c.entries v ≡ false → length g.names < length met + fuel → ⊥
  descend zero met apart v reach lt missing long =
      let few = length-le_from_distinct_below met (length g.names) apart (λ (q : ℕ) (t : list_any (nat_eq q) met ≡ true). (reach q (Contains-from_any exact_unsigned_eq q met t)).0) in
      omega arith
  descend (suc fuel) met apart v reach lt missing long =
      elim (cases_Bool (list_any (nat_eq v) met)) [
        | inl again ↦ acyclic v (reach v (Contains-from_any exact_unsigned_eq v met again)).1
        | inr new ↦
            let w = next v lt missing in
            let l = length-append met (v ∷ []) in
            descend fuel (met ++ v ∷ []) (IsDistinct-push nat_eq_equiv met v apart new) w.0 (λ x h. elim (Contains-append_cases met (v ∷ []) x h) [
              | inl old ↦ let r = reach x old in (r.0, (r.1.0 ++ v ∷ [], chain_more g.imports x r.1.0 v w.0 r.1.1 w.1))
              | inr here ↦
                  let same : v ≡ x = one_member v x here in
                  let P : ℕ → Type 0 = λ y. (y < length g.names) × Reaches g.imports y w.0 in
                  subst P same (lt, ([], w.1))
            ]) (member_below g graph v w.0 w.1) w.2 (omega arith)
      ]

  all_below : (k : ℕ) → ((n : ℕ) → n < k → has_entry c.entries n ≡ true) ⊎ ((n : ℕ) × (n < k) × (has_entry c.entries n ≡ false))
  all_below zero = inl (λ n lt. absurd (omega arith))
  all_below (suc k) = elim (all_below k) [
    | inl all ↦ elim (cases_Bool (has_entry c.entries k)) [
      | inl there ↦ inl (λ n lt. elim (cases_lt n k) [
        | inl below ↦ all n below
        | inr above ↦ let same : k ≡ n = omega arith in ap (has_entry c.entries) (sym same) ∙ there
      ])
      | inr missing ↦ inr (k, omega arith, missing)
    ]
    | inr found ↦ let lt = found.1 in inr (found.0, omega arith, found.2)
  ]

  pub goes_on : IsOver c
  goes_on = elim (all_below (length c.entries)) [
    | inl all ↦ inr all
    | inr found ↦
        let lt = found.1 in
        absurd (descend (suc (length g.names)) [] none_twice found.0 (λ x h. no_member x h) (omega arith) found.2 (omega arith))
  ]
