-- Paths of imports; whether there is one is decidable.
use Rattle.std.proofs.Common.{◌≡◌, ℕ, zero, suc, ◌<◌, Bool, true, false, List, [], ◌∷◌, ◌++◌, length, get_or, refl, sym, ap, ◌∙◌, subst, arith, ◌⊎◌, inl, inr}
use Rattle.std.specs.Prelude.{Contains}
use Rattle.std.proofs.lemmas.Bool.{cases_Bool, cases_eq, both_ways}
use Rattle.cut_net.specs.declared.priced.Priced.{Priced}
use Rattle.cut_net.specs.Cuts.{Imports, IsChain, Chain, Outside}
use Rattle.cut_net.proofs.ListSums.{here, present}

pub join : (imports : List Priced) (Allowed : Priced → Type 0) (m : ℕ) (first : List ℕ) (k : ℕ) (b : ℕ) (more : List ℕ) →
    IsChain imports Allowed m first k → IsChain imports Allowed k more b → IsChain imports Allowed m (first ++ more) b
join imports Allowed m [] k b more e rest = subst (λ j. IsChain imports Allowed j more b) (sym e) rest
join imports Allowed m (n ∷ first) k b more c rest = (c.0, join imports Allowed n first k b more c.1 rest)

pub joined : (imports : List Priced) (Allowed : Priced → Type 0) (m k b : ℕ) →
    Chain imports Allowed m k → Chain imports Allowed k b → Chain imports Allowed m b
joined imports Allowed m k b c d = (c.0 ++ d.0, join imports Allowed m c.0 k b d.0 c.1 d.1)

-- an import followed by a path
pub step : (imports : List Priced) (Allowed : Priced → Type 0) (b : ℕ) (i : Priced) →
    Contains imports i → Allowed i → Chain imports Allowed i.to b → Chain imports Allowed i.from b
step imports Allowed b i c al rest = (i.to ∷ rest.0, ((i, c, refl, refl, al), rest.1))

-- a path stays a path if more imports are allowed and the list has more imports
pub widened : (xs ys : List Priced) (P Q : Priced → Type 0) → ((i : Priced) → Contains xs i → P i → Contains ys i × Q i) →
    (m : ℕ) (more : List ℕ) (b : ℕ) → IsChain xs P m more b → IsChain ys Q m more b
widened xs ys P Q wider m [] b e = e
widened xs ys P Q wider m (n ∷ more) b (s, rest) =
    let w = wider s.0 s.1 s.4 in
    ((s.0, w.0, s.2, s.3, w.1), widened xs ys P Q wider n more b rest)

-- a path in a list with one more import: it does without it, or it is cut there, where it uses it last
module _ (xs : List Priced) (x : Priced) (Allowed : Priced → Type 0) where
  Through : ℕ → ℕ → Type 0
  Through m b = Allowed x × Chain xs Allowed m x.from × Chain xs Allowed x.to b

  step_in : (m n : ℕ) (i : Priced) (k : ℕ) → k < length (x ∷ xs) → get_or (x ∷ xs) k i ≡ i → i.from ≡ m → i.to ≡ n → Allowed i →
      (Imports xs Allowed m n) ⊎ (Allowed x × (x.from ≡ m) × (x.to ≡ n))
  step_in m n i zero h e ef et al = inr (subst Allowed (sym e) al, ap (λ (j : Priced). j.from) e ∙ ef, ap (λ (j : Priced). j.to) e ∙ et)
  step_in m n i (suc k) h e ef et al = inl (i, (k, omega arith, e), ef, et, al)

  narrowed : (m : ℕ) (more : List ℕ) (b : ℕ) → IsChain (x ∷ xs) Allowed m more b → (Chain xs Allowed m b) ⊎ (Through m b)
  unfolding Through
  narrowed m [] b e = inl ([], e)
  narrowed m (n ∷ more) b ((i, c, ef, et, al), rest) =
      elim (step_in m n i c.0 c.1 c.2 ef et al) [
        | inl s ↦ elim (narrowed n more b rest) [
          | inl d ↦ inl (n ∷ d.0, (s, d.1))
          | inr t ↦ inr (t.0, (n ∷ t.1.0, (s, t.1.1)), t.2)
        ]
        | inr (al_x, from_m, to_n) ↦ elim (narrowed n more b rest) [
          | inl d ↦ inr (al_x, ([], sym from_m), subst (λ j. Chain xs Allowed j b) (sym to_n) d)
          | inr t ↦ inr (al_x, ([], sym from_m), t.2)
        ]
      ]

no_chain_by_none : (Allowed : Priced → Type 0) (m : ℕ) (more : List ℕ) (b : ℕ) → IsChain [] Allowed m more b → m ≡ b
no_chain_by_none Allowed m [] b e = e
no_chain_by_none Allowed m (n ∷ more) b ((i, c, ef, et, al), rest) = let h = c.1 in absurd (omega arith)

wider : (xs : List Priced) (x : Priced) (Allowed : Priced → Type 0) (m b : ℕ) → Chain xs Allowed m b → Chain (x ∷ xs) Allowed m b
wider xs x Allowed m b c = (c.0, widened xs (x ∷ xs) Allowed Allowed (λ i h al. (present x xs i h, al)) m c.0 b c.1)

-- the existence of a path is decidable
pub chain_or_none : (imports : List Priced) (Allowed : Priced → Type 0) → ((i : Priced) → (Allowed i) ⊎ (Allowed i → ⊥)) → (m b : ℕ) →
    (Chain imports Allowed m b) ⊎ (Chain imports Allowed m b → ⊥)
unfolding Through
chain_or_none [] Allowed decide m b =
    elim (cases_eq m b) [ inl e ↦ inl ([], e) | inr ne ↦ inr (λ c. ne (no_chain_by_none Allowed m c.0 b c.1)) ]
chain_or_none (x ∷ xs) Allowed decide m b =
    elim (chain_or_none xs Allowed decide m b) [
      | inl c ↦ inl (wider xs x Allowed m b c)
      | inr none ↦ elim (decide x) [
        | inr not_x ↦ inr (λ c. elim (narrowed xs x Allowed m c.0 b c.1) [ inl d ↦ none d | inr t ↦ not_x t.0 ])
        | inl al ↦ elim (chain_or_none xs Allowed decide m x.from) [
          | inr none_from ↦ inr (λ c. elim (narrowed xs x Allowed m c.0 b c.1) [ inl d ↦ none d | inr t ↦ none_from t.1 ])
          | inl c_from ↦ elim (chain_or_none xs Allowed decide x.to b) [
            | inr none_to ↦ inr (λ c. elim (narrowed xs x Allowed m c.0 b c.1) [ inl d ↦ none d | inr t ↦ none_to t.2 ])
            | inl c_to ↦ inl (joined (x ∷ xs) Allowed m x.from b (wider xs x Allowed m x.from c_from)
                (step (x ∷ xs) Allowed b x (here x xs) al (wider xs x Allowed x.to b c_to)))
          ]
        ]
      ]
    ]

pub outside_or_in : (x : Priced → Bool) (i : Priced) → (x i ≡ false) ⊎ ((x i ≡ false) → ⊥)
outside_or_in x i = elim (cases_Bool (x i)) [ inl t ↦ inr (λ f. both_ways (x i) f t) | inr f ↦ inl f ]

-- the modules without a path to b outside the set
module _ (imports : List Priced) (x : Priced → Bool) (b : ℕ) where
  pub no_chain_to : ℕ → Bool
  no_chain_to m = elim (chain_or_none imports (Outside x) (outside_or_in x) m b) [ inl _ ↦ false | inr _ ↦ true ]

  pub no_chain_to-true : (m : ℕ) → (Chain imports (Outside x) m b → ⊥) → no_chain_to m ≡ true
  unfolding no_chain_to
  no_chain_to-true m none =
      elim (chain_or_none imports (Outside x) (outside_or_in x) m b) as (λ v. elim v as (λ _. Bool) [ inl _ ↦ false | inr _ ↦ true ] ≡ true) [ inl c ↦ absurd (none c) | inr _ ↦ refl ]

  pub no_chain_to-false : (m : ℕ) → Chain imports (Outside x) m b → no_chain_to m ≡ false
  unfolding no_chain_to
  no_chain_to-false m c =
      elim (chain_or_none imports (Outside x) (outside_or_in x) m b) as (λ v. elim v as (λ _. Bool) [ inl _ ↦ false | inr _ ↦ true ] ≡ false) [ inl _ ↦ refl | inr none ↦ absurd (none c) ]

  -- the converse
  pub chain_from_false : (m : ℕ) → no_chain_to m ≡ false → Chain imports (Outside x) m b
  chain_from_false m e = elim (chain_or_none imports (Outside x) (outside_or_in x) m b) [ inl c ↦ c | inr none ↦ absurd (both_ways _ e (no_chain_to-true m none)) ]
