-- Each import that is reported is needed: a path comes back with it.
use Rattle.std.proofs.Common.{◌≡◌, ℕ, zero, suc, ◌+◌, ◌≤◌, ◌<◌, Bool, true, false, cond, ◌&&◌, ◌||◌, not, List, length, [], ◌∷◌, refl, sym, subst, arith, ◌⊎◌, inl, inr}
use Rattle.std.specs.Prelude.{Contains}
use Rattle.std.proofs.lemmas.Bool.{cases_Bool, both_ways, not-true, and_parts, and_from, not_from_false, not_from_true, false_from_ne_true, true_from_ne_false, and_left, and_right, or_left, eq-eqb, cases_eq}
use Rattle.cut_net.specs.declared.priced.Priced.{Priced}
use Rattle.cut_net.specs.Network.{Network}
use Rattle.cut_net.specs.WellFormed.{AreBetween}
use Rattle.cut_net.specs.Cuts.{IsChain, Chain, Outside, weight, IsSide, leaves, IsMinimumSide, InSourceSide, LeavesSourceSide, AreReported, without, have_equal_ends}
use Rattle.cut_net.proofs.ListSums.{sum_by-mono, sum_by-both}
use Rattle.cut_net.proofs.Chains.{chain_or_none, joined, step, widened}
use Rattle.cut_net.proofs.Certificate.{weight-mono}
use Rattle.cut_net.proofs.PrintedCut.{among_is_least, among_modules, among_near, unprinted}

meet : (ℕ → Bool) → (ℕ → Bool) → ℕ → Bool
meet s t k = s k && t k

union : (ℕ → Bool) → (ℕ → Bool) → ℕ → Bool
union s t k = s k || t k

submodular : (p q r t : Bool) (w : ℕ) → cond ((p && q) && not (r && t)) w 0 + cond ((p || q) && not (r || t)) w 0 ≤ cond (p && not r) w 0 + cond (q && not t) w 0
submodular true true true true w = omega arith
submodular true true true false w = omega arith
submodular true true false true w = omega arith
submodular true true false false w = omega arith
submodular true false true true w = omega arith
submodular true false true false w = omega arith
submodular true false false true w = omega arith
submodular true false false false w = omega arith
submodular false true true true w = omega arith
submodular false true true false w = omega arith
submodular false true false true w = omega arith
submodular false true false false w = omega arith
submodular false false true true w = omega arith
submodular false false true false w = omega arith
submodular false false false true w = omega arith
submodular false false false false w = omega arith

weights : (imports : List Priced) (s t : ℕ → Bool) → weight imports (leaves (meet s t)) + weight imports (leaves (union s t)) ≤ weight imports (leaves s) + weight imports (leaves t)
unfolding meet union
weights imports s t =
    let both = sum_by-both (λ i. cond (leaves (meet s t) i) i.amount 0) (λ i. cond (leaves (union s t) i) i.amount 0) _ imports (λ i _. refl) in
    let each = sum_by-both (λ i. cond (leaves s i) i.amount 0) (λ i. cond (leaves t i) i.amount 0) _ imports (λ i _. refl) in
    let le = sum_by-mono (λ i. cond (leaves (meet s t) i) i.amount 0 + cond (leaves (union s t) i) i.amount 0) (λ i. cond (leaves s i) i.amount 0 + cond (leaves t i) i.amount 0) imports
    (λ i _. submodular (s i.from) (t i.from) (s i.to) (t i.to) i.amount) in
    omega arith

-- the intersection of two source sides of minimum weight is one
meet_is_least : (net : Network) (a b : ℕ) (s t : ℕ → Bool) → IsMinimumSide net a b s → IsMinimumSide net a b t → IsMinimumSide net a b (meet s t)
unfolding meet union
meet_is_least net a b s t ls lt =
    let meets : IsSide net a b (meet s t) = record { start = and_from _ _ ls.is_side.start lt.is_side.start; end = and_left _ _ ls.is_side.end } in
    let joins : IsSide net a b (union s t) = record { start = or_left _ _ ls.is_side.start; end = rw (ls.is_side.end, lt.is_side.end) refl } in
    let sub = weights net.imports s t in
    let above = ls.least (union s t) joins in
    record {
      is_side = meets;
      least = λ other is_side. let le = lt.least other is_side in omega arith;
    }

-- a source side of minimum weight whose modules below n are all near
Nearest : Network → ℕ → ℕ → ℕ → Type 0
Nearest net a b n = (s : ℕ → Bool) × IsMinimumSide net a b s × ((k : ℕ) → k < n → s k ≡ true → InSourceSide net a b k)

-- a module outside the minimal source side is outside some source side of minimum weight
outside_some : (net : Network) (a b m : ℕ) → (InSourceSide net a b m → ⊥) → (((s : ℕ → Bool) × IsMinimumSide net a b s × (s m ≡ false)) → ⊥) → ⊥
outside_some net a b m far none = far (λ s least. true_from_ne_false (s m) (λ f. none (s, least, f)))

-- it is impossible that there is none
nearest : (net : Network) (a b : ℕ) (s : ℕ → Bool) → IsMinimumSide net a b s → (n : ℕ) → (Nearest net a b n → ⊥) → ⊥
unfolding Nearest meet
nearest net a b s least zero none = none (s, least, λ k h t. absurd (omega arith))
nearest net a b s least (suc n) none =
    nearest net a b s least n (λ (t, t_least, t_near).
    let far : InSourceSide net a b n → ⊥ = λ near. none (
      t,
      t_least,
      λ k h has. elim (cases_eq k n) [
        | inl e ↦ subst (InSourceSide net a b) (sym e) near
        | inr ne ↦ t_near k (omega arith) has
      ],
    ) in
    outside_some net a b n far (λ (u, u_least, out).
    none (
      meet t u,
      meet_is_least net a b t u t_least u_least,
      λ k h has.
          let parts = and_parts (t k) (u k) has in
          elim (cases_eq k n) [
            | inl e ↦ absurd (both_ways (u n) out (subst (λ j. u j ≡ true) e parts.1))
            | inr ne ↦ t_near k (omega arith) parts.0
          ],
    )))

decided : (P : Type 0) → P ⊎ (P → ⊥) → Bool
decided P (inl _) = true
decided P (inr _) = false

decided-yes : (P : Type 0) (d : P ⊎ (P → ⊥)) → P → decided P d ≡ true
unfolding decided
decided-yes P (inl _) p = refl
decided-yes P (inr none) p = absurd (none p)

decided-true : (P : Type 0) (d : P ⊎ (P → ⊥)) → decided P d ≡ true → P
unfolding decided
decided-true P (inl p) e = p
decided-true P (inr none) e = absurd (both_ways false refl e)

module _ (net : Network) (a b : ℕ) (between : AreBetween net.imports (length net.names)) (a_in : a < length net.names)
    (n : ℕ → Bool) (least : IsMinimumSide net a b n) (near : (k : ℕ) → k < (length net.names) → n k ≡ true → InSourceSide net a b k) where
  Subnetworks : Priced → Type 0
  Subnetworks i = (n i.from ≡ true) × (n i.to ≡ true)

  inside_or_not : (i : Priced) → (Subnetworks i) ⊎ (Subnetworks i → ⊥)
  unfolding Subnetworks
  inside_or_not i = elim (cases_Bool (n i.from)) [
    | inr f ↦ inr (λ h. both_ways _ f h.0)
    | inl t ↦ elim (cases_Bool (n i.to)) [ inr f ↦ inr (λ h. both_ways _ f h.1) | inl u ↦ inl (t, u) ]
  ]

  -- what a reaches by paths that stay inside
  reach : ℕ → Bool
  reach m = decided (Chain net.imports Subnetworks a m) (chain_or_none net.imports Subnetworks inside_or_not a m)

  ends_inside : (m : ℕ) (more : List ℕ) (k : ℕ) → n m ≡ true → IsChain net.imports Subnetworks m more k → n k ≡ true
  unfolding Subnetworks
  ends_inside m [] k t e = subst (λ j. n j ≡ true) e t
  ends_inside m (j ∷ more) k t ((i, c, ef, et, al), rest) = ends_inside j more k (subst (λ v. n v ≡ true) et al.1) rest

  reach_side : IsSide net a b reach
  unfolding reach
  reach_side = record {
    start = decided-yes _ (chain_or_none net.imports Subnetworks inside_or_not a a) ([], refl);
    end = false_from_ne_true _ (λ t.
        let c = decided-true _ (chain_or_none net.imports Subnetworks inside_or_not a b) t in
        both_ways (n b) least.is_side.end (ends_inside a c.0 b least.is_side.start c.1));
  }

  leaves_too : (i : Priced) → Contains net.imports i → leaves reach i ≡ true → leaves n i ≡ true
  unfolding reach Subnetworks
  leaves_too i c out =
      let parts = and_parts (reach i.from) (not (reach i.to)) out in
      let chain = decided-true _ (chain_or_none net.imports Subnetworks inside_or_not a i.from) parts.0 in
      let has = ends_inside a chain.0 i.from least.is_side.start chain.1 in
      and_from _ _ has (not_from_false _ (false_from_ne_true _ (λ t.
      let longer : Chain net.imports Subnetworks a i.to = joined net.imports Subnetworks a i.from i.to chain (step net.imports Subnetworks i.to i c (has, t) ([], refl)) in
      both_ways (reach i.to) (not-true _ parts.1) (decided-yes _ (chain_or_none net.imports Subnetworks inside_or_not a i.to) longer))))

  reach_least : IsMinimumSide net a b reach
  reach_least = record {
    is_side = reach_side;
    least = λ other is_side. let le = weight-mono net.imports (leaves reach) (leaves n) leaves_too in let more = least.least other is_side in omega arith;
  }

  -- a path to each module of the minimal source side by imports between modules of the minimal source side
  chain_near : (m : ℕ) → InSourceSide net a b m → Chain net.imports Subnetworks a m
  unfolding reach
  chain_near m is_near = decided-true _ (chain_or_none net.imports Subnetworks inside_or_not a m) (is_near reach reach_least)

  back : (x : Priced → Bool) → AreReported net a b x → (i : Priced) → Contains net.imports i → x i ≡ true → Chain net.imports (Outside (without x i)) a b
  unfolding Subnetworks
  back x printed i c t =
      let one = (printed i c).0 t in
      let first = chain_near i.from one.0.0 in
      let before = widened net.imports net.imports Subnetworks (Outside (without x i))
      (λ j d inside. (d, and_left (x j) (not (have_equal_ends i j)) (false_from_ne_true _ (λ u. ((printed j d).0 u).0.1 (near j.to (between j d).1 inside.1))))) a first.0 i.from first.1 in
      let after = widened net.imports net.imports (λ j. LeavesSourceSide net a b j → ⊥) (Outside (without x i))
      (λ j d stays. (d, and_left (x j) (not (have_equal_ends i j)) (false_from_ne_true _ (λ u. stays ((printed j d).0 u).0)))) i.to one.1.0 b one.1.1 in
      let itself : Outside (without x i) i = and_right (x i) (not (have_equal_ends i i)) (not_from_true _ (and_from _ _ (eq-eqb i.from i.from refl) (eq-eqb i.to i.to refl))) in
      joined net.imports (Outside (without x i)) a i.from b (first.0, before) (step net.imports (Outside (without x i)) b i c itself (one.1.0, after))

outside_decided : (y : Priced → Bool) (i : Priced) → (Outside y i) ⊎ (Outside y i → ⊥)
outside_decided y i = elim (cases_Bool (y i)) [ inl t ↦ inr (λ f. both_ways (y i) f t) | inr f ↦ inl f ]

pub needed : (net : Network) (a b : ℕ) (x : Priced → Bool) → AreBetween net.imports (length net.names) → a < length net.names → AreReported net a b x →
    (i : Priced) → Contains net.imports i → x i ≡ true → Chain net.imports (Outside (without x i)) a b
unfolding Nearest
needed net a b x between a_in printed i c t =
    elim (chain_or_none net.imports (Outside (without x i)) (outside_decided (without x i)) a b) [
      | inl chain ↦ chain
      | inr none ↦ absurd (outside_some net a b i.to ((printed i c).0 t).0.1 (λ (s, s_least, _).
          nearest net a b s s_least (length net.names) (λ (n, least, near). none (back net a b between a_in n least near x printed i c t))))
    ]

-- an import that leaves the minimal source side and isn't reported weighs nothing
pub weighs_nothing : (net : Network) (a b : ℕ) (x : Priced → Bool) → AreBetween net.imports (length net.names) → a < length net.names → AreReported net a b x →
    (i : Priced) → Contains net.imports i → LeavesSourceSide net a b i → x i ≡ false → i.amount ≡ 0
unfolding Nearest
weighs_nothing net a b x between a_in printed i c out off =
    elim (cases_eq i.amount 0) [
      | inl e ↦ e
      | inr some ↦ absurd (outside_some net a b i.to out.1 (λ (s, s_least, _).
          nearest net a b s s_least (length net.names) (λ (n, least, near).
          let are = among_near net a b between a_in n least near in
          let from = (are i.from).1 out.0 in
          let to = false_from_ne_true _ (λ t. out.1 ((are i.to).0 t)) in
          some (unprinted net a b (among_modules net a b between a_in n least) are x printed (among_is_least net a b between a_in n least) i c (and_from _ _ from (not_from_false _ to)) off))))
    ]
