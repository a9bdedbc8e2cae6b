-- Weak duality: the value of a flow is at most the weight of the imports that leave a source side.
use Rattle.std.proofs.Common.{◌≡◌, ◌≢◌, ℕ, zero, suc, ◌+◌, ◌≤◌, ◌<◌, Bool, true, false, cond, ◌&&◌, not, eqb, ltb, List, length, refl, subst, arith, sum_by, inl, inr}
use Rattle.std.proofs.lemmas.Bool.{cases_order, cases_Bool, cases_eq, lt-ltb, le-ltb, eq-eqb, ne_eqb, both_ways}
use Rattle.cut_net.specs.declared.priced.Priced.{Priced}
use Rattle.cut_net.specs.Network.{Network}
use Rattle.cut_net.specs.WellFormed.{AreBetween}
use Rattle.cut_net.specs.Cuts.{weight, IsSide, leaves, entering, leaving, IsFlow}
use Rattle.cut_net.proofs.ListSums.{sum_by-same, sum_by-mono, sum_by-both}

-- the modules of the set below n
pub below : (ℕ → Bool) → ℕ → ℕ → Bool
below s n k = s k && ltb k n

below_more_yes : (s : ℕ → Bool) (n k c : ℕ) → s n ≡ true → cond (below s n k) c 0 + cond (eqb k n) c 0 ≡ cond (below s (suc n) k) c 0
unfolding below
below_more_yes s n k c has =
    elim (cases_order k n) [
      | inl e ↦ rw (e, has, eq-eqb n n refl, le-ltb n n (omega arith), lt-ltb n (suc n) (omega arith)) (omega arith)
      | inr r ↦ elim r [
        | inl h ↦ rw (ne_eqb k n (omega arith), lt-ltb k n h, lt-ltb k (suc n) (omega arith)) (omega arith)
        | inr h ↦ rw (ne_eqb k n (omega arith), le-ltb k n (omega arith), le-ltb k (suc n) (omega arith)) (omega arith)
      ]
    ]

below_more_no : (s : ℕ → Bool) (n k c : ℕ) → s n ≡ false → cond (below s n k) c 0 ≡ cond (below s (suc n) k) c 0
unfolding below
below_more_no s n k c lacks =
    elim (cases_order k n) [
      | inl e ↦ rw (e, lacks) refl
      | inr r ↦ elim r [
        | inl h ↦ rw (lt-ltb k n h, lt-ltb k (suc n) (omega arith)) refl
        | inr h ↦ rw (le-ltb k n (omega arith), le-ltb k (suc n) (omega arith)) refl
      ]
    ]

below_none : (s : ℕ → Bool) (k : ℕ) → below s 0 k ≡ false
unfolding below
below_none s k = rw (le-ltb k 0 (omega arith)) (elim (s k) as (λ t. (t && false) ≡ false) [ true ↦ refl | false ↦ refl ])

-- the outflow and the inflow of a set of modules below n, each import counted by one of its ends
abbrev out_of : List Priced → (Priced → ℕ) → (ℕ → Bool) → ℕ → ℕ
out_of imports flow s n = sum_by (λ i. cond (below s n i.from) (flow i) 0) imports

abbrev in_to : List Priced → (Priced → ℕ) → (ℕ → Bool) → ℕ → ℕ
in_to imports flow s n = sum_by (λ i. cond (below s n i.to) (flow i) 0) imports

-- the inflow of each module but a and b is its outflow, and the value is the outflow of a less its inflow
pub record IsConserved (net : Network) (a b : ℕ) (flow : Priced → ℕ) (value : ℕ) : Type 0 where
  pub kept : (m : ℕ) → m ≢ a → m ≢ b → entering net.imports flow m ≡ leaving net.imports flow m
  pub at_start : entering net.imports flow a + value ≡ leaving net.imports flow a

module _ (net : Network) (a b : ℕ) (flow : Priced → ℕ) (value : ℕ) (is_flow : IsConserved net a b flow value) (s : ℕ → Bool) (is_side : IsSide net a b s) where
  out_more : (n : ℕ) → s n ≡ true → out_of net.imports flow s n + leaving net.imports flow n ≡ out_of net.imports flow s (suc n)
  out_more n has = sum_by-both _ _ _ net.imports (λ i _. below_more_yes s n i.from (flow i) has)

  in_more : (n : ℕ) → s n ≡ true → in_to net.imports flow s n + entering net.imports flow n ≡ in_to net.imports flow s (suc n)
  in_more n has = sum_by-both _ _ _ net.imports (λ i _. below_more_yes s n i.to (flow i) has)

  out_same : (n : ℕ) → s n ≡ false → out_of net.imports flow s n ≡ out_of net.imports flow s (suc n)
  out_same n lacks = sum_by-same _ _ net.imports (λ i _. below_more_no s n i.from (flow i) lacks)

  in_same : (n : ℕ) → s n ≡ false → in_to net.imports flow s n ≡ in_to net.imports flow s (suc n)
  in_same n lacks = sum_by-same _ _ net.imports (λ i _. below_more_no s n i.to (flow i) lacks)

  apart : (m n : ℕ) → s m ≡ true → s n ≡ false → m ≢ n
  apart m n has lacks e = both_ways (s n) lacks (subst (λ k. s k ≡ true) e has)

  balanced : (n : ℕ) → (n ≤ a → out_of net.imports flow s n ≡ in_to net.imports flow s n) × (a < n → in_to net.imports flow s n + value ≡ out_of net.imports flow s n)
  balanced zero = (λ _. sum_by-same _ _ net.imports (λ i _. rw (below_none s i.from, below_none s i.to) refl), λ h. absurd (omega arith))
  balanced (suc n) =
      let before = balanced n in
      elim (cases_Bool (s n)) [
        | inl has ↦
            let out = out_more n has in
            let into = in_more n has in
            elim (cases_eq n a) [
              | inl e ↦
                  let at_start = is_flow.at_start in
                  let here : leaving net.imports flow n ≡ entering net.imports flow n + value = rw e (omega arith) in
                  (λ h. absurd (omega arith), λ h. let first = before.0 (omega arith) in omega arith)
              | inr ne ↦
                  let kept = is_flow.kept n ne (apart n b has is_side.end) in
                  (λ h. let first = before.0 (omega arith) in omega arith, λ h. let first = before.1 (omega arith) in omega arith)
            ]
        | inr lacks ↦
            let out = out_same n lacks in
            let into = in_same n lacks in
            let ne : a ≢ n = apart a n is_side.start lacks in
            (λ h. let first = before.0 (omega arith) in omega arith, λ h. let first = before.1 (omega arith) in omega arith)
      ]

-- the import leads into the set of modules
abbrev pub enters : (ℕ → Bool) → Priced → Bool
enters s i = not (s i.from) && s i.to

both_ends : (t u v : Bool) (c : ℕ) → v ≡ true → cond (t && not u) c 0 + cond (t && u) c 0 ≡ cond (t && v) c 0
both_ends true true v c e = rw e (omega arith)
both_ends true false v c e = rw e (omega arith)
both_ends false u v c e = refl

both_ends_back : (t u v : Bool) (c : ℕ) → v ≡ true → cond (not t && u) c 0 + cond (t && u) c 0 ≡ cond (u && v) c 0
both_ends_back true true v c e = rw e (omega arith)
both_ends_back true false v c e = refl
both_ends_back false true v c e = rw e (omega arith)
both_ends_back false false v c e = refl

-- the flow out of a source side is the flow into it plus the value
pub across_kept : (net : Network) (a b : ℕ) (flow : Priced → ℕ) (value : ℕ) (s : ℕ → Bool) →
    AreBetween net.imports (length net.names) → a < length net.names → IsConserved net a b flow value → IsSide net a b s →
    sum_by (λ i. cond (enters s i) (flow i) 0) net.imports + value ≡ sum_by (λ i. cond (leaves s i) (flow i) 0) net.imports
unfolding below
across_kept net a b flow value s between a_in is_flow is_side =
    let bal = (balanced net a b flow value is_flow s is_side (length net.names)).1 a_in in
    let out : sum_by (λ i. cond (leaves s i) (flow i) 0) net.imports + sum_by (λ i. cond (s i.from && s i.to) (flow i) 0) net.imports ≡ out_of net.imports flow s (length net.names) =
    sum_by-both _ _ _ net.imports (λ i c. both_ends (s i.from) (s i.to) (ltb i.from (length net.names)) (flow i) (lt-ltb i.from (length net.names) (between i c).0)) in
    let into : sum_by (λ i. cond (enters s i) (flow i) 0) net.imports + sum_by (λ i. cond (s i.from && s i.to) (flow i) 0) net.imports ≡ in_to net.imports flow s (length net.names) =
    sum_by-both _ _ _ net.imports (λ i c. both_ends_back (s i.from) (s i.to) (ltb i.to (length net.names)) (flow i) (lt-ltb i.to (length net.names) (between i c).1)) in
    omega arith

pub across : (net : Network) (a b : ℕ) (flow : Priced → ℕ) (value : ℕ) (s : ℕ → Bool) →
    AreBetween net.imports (length net.names) → a < length net.names → IsFlow net a b flow value → IsSide net a b s →
    sum_by (λ i. cond (enters s i) (flow i) 0) net.imports + value ≡ sum_by (λ i. cond (leaves s i) (flow i) 0) net.imports
across net a b flow value s between a_in is_flow is_side = across_kept net a b flow value s between a_in (record { kept = is_flow.kept; at_start = is_flow.at_start }) is_side

pub cond_le : (t : Bool) (x y : ℕ) → x ≤ y → cond t x 0 ≤ cond t y 0
cond_le true x y h = h
cond_le false x y h = omega arith

-- the value of a flow is at most the weight of the imports that leave a source side
pub value_within : (net : Network) (a b : ℕ) (flow : Priced → ℕ) (value : ℕ) (s : ℕ → Bool) →
    AreBetween net.imports (length net.names) → a < length net.names → IsFlow net a b flow value → IsSide net a b s → value ≤ weight net.imports (leaves s)
value_within net a b flow value s between a_in is_flow is_side =
    let e = across net a b flow value s between a_in is_flow is_side in
    let le : sum_by (λ i. cond (leaves s i) (flow i) 0) net.imports ≤ weight net.imports (leaves s) =
    sum_by-mono _ _ net.imports (λ i c. cond_le (leaves s i) (flow i) i.amount (is_flow.within i c)) in
    omega arith
