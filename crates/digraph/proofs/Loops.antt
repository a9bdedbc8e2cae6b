-- Cycles, and graphs without cycles.
use Rattle.std.proofs.Common.{◌≡◌, ℕ, ◌⊎◌, inl, inr, List, [], ◌∷◌, refl, sym, ◌∙◌, subst, Bool, true, false, eqb-true, eq-eqb}
use Rattle.std.specs.Prelude.{nat_eq}
use Rattle.std.specs.List.{list_any}
use Rattle.std.proofs.lemmas.Bool.{or_cases, or_left, or_right}
use Rattle.digraph.specs.Chains.{IsAcyclic, IsChain}
use Rattle.digraph.specs.Cycle.{EachLeadsToMember, IsCycleCore}

-- the number is an element of the list
abbrev among : List ℕ → ℕ → Bool
among xs x = list_any (nat_eq x) xs

-- the first of the nodes
first_among : (m : ℕ) (more : List ℕ) → among (m ∷ more) m ≡ true
first_among m more = or_left (nat_eq m m) (among more m) (eq-eqb m m refl)

later_among : (m x : ℕ) (more : List ℕ) → among more x ≡ true → among (m ∷ more) x ≡ true
later_among m x more t = or_right (nat_eq x m) (among more x) t

-- each node of a path has an edge to a node of the path, or is its last
goes_on : (Leads : ℕ → ℕ → Type 0) (m : ℕ) (more : List ℕ) (b : ℕ) → IsChain Leads m more b → (x : ℕ) → among (m ∷ more) x ≡ true
    → ((y : ℕ) × Leads x y × (among (m ∷ more) y ≡ true)) ⊎ (x ≡ b)
goes_on Leads m [] b chain x t = elim (or_cases (nat_eq x m) false t) [
  | inl same ↦ inr (eqb-true x m same ∙ chain)
  | inr never ↦ cc
]
goes_on Leads m (n ∷ more) b chain x t = elim (or_cases (nat_eq x m) (among (n ∷ more) x) t) [
  | inl same ↦ inl (n, subst (λ (v : ℕ). Leads v n) (sym (eqb-true x m same)) chain.0, later_among m n (n ∷ more) (first_among n more))
  | inr later ↦ elim (goes_on Leads n more b chain.1 x later) [
    | inl on ↦ inl (on.0, on.1, later_among m on.0 (n ∷ more) on.2)
    | inr last ↦ inr last
  ]
]

-- a path that one more edge closes to a cycle
each_on_chain : (Leads : ℕ → ℕ → Type 0) (m n : ℕ) → Leads m n → (more : List ℕ) → IsChain Leads n more m → EachLeadsToMember Leads (among (n ∷ more))
each_on_chain Leads m n leads more chain v h = elim (goes_on Leads n more m chain v h) [
  | inl on ↦ on
  | inr last ↦ (n, subst (λ (u : ℕ). Leads u n) (sym last) leads, first_among n more)
]

-- if the cycle core is empty, no path closes to a cycle
pub acyclic_without_endless : (Leads : ℕ → ℕ → Type 0) (s : ℕ → Bool) → IsCycleCore Leads s → ((v : ℕ) → s v ≡ true → ⊥) → IsAcyclic Leads
acyclic_without_endless Leads s core_nodes none m n leads (more, chain) =
    none n (core_nodes.greatest (among (n ∷ more)) (each_on_chain Leads m n leads more chain) n (first_among n more))
