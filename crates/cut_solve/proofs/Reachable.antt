-- The modules that residual imports reach, as flags.
use Rattle.std.proofs.Common.{◌≡◌, ℕ, zero, suc, ◌-◌, ◌≤◌, ◌<◌, ◌⊎◌, inl, inr, Bool, true, false, not, List, [], ◌∷◌, ◌++◌, length, map, refl, sym, ◌∙◌, subst, arith}
use Rattle.std.specs.Prelude.{Contains, nat_lt, ◌↔◌}
use Rattle.std.proofs.lemmas.Bool.{both_ways, cases_lt, lt-ltb, ltb-true, not-true, not_from_false}
use Rattle.std.proofs.lemmas.List.Elements.{Contains-append_cases, Contains-append_left, Contains-append_right}
use Rattle.cut_net.specs.declared.priced.Priced.{Priced}
use Rattle.cut_net.specs.Network.{Network}
use Rattle.cut_net.specs.Cuts.{IsSetOf, Chain, IsChain, IsClosed, Outside, Reached}
use Rattle.cut_net.specs.WellFormed.{AreBetween}
use Rattle.cut_net.proofs.Chains.{chain_from_false, chain_or_none, joined, no_chain_to, no_chain_to-false, step}
use Rattle.cut_net.proofs.Members.{from_map, in_map}
use Rattle.residual_graph.specs.Graphs.{is_flagged}

-- the flags of the numbers below n that pass
marks : (ℕ → Bool) → ℕ → List Bool
marks f zero = []
marks f (suc n) = f 0 ∷ marks (λ k. f (suc k)) n

marks_size : (f : ℕ → Bool) (n : ℕ) → length (marks f n) ≡ n
unfolding marks
marks_size f zero = refl
marks_size f (suc n) = let rest = marks_size (λ k. f (suc k)) n in omega arith

marks_in : (f : ℕ → Bool) (n m : ℕ) → m < n → is_flagged (marks f n) m ≡ f m
unfolding marks
marks_in f zero m lt = absurd (omega arith)
marks_in f (suc n) zero lt = refl
marks_in f (suc n) (suc m) lt = marks_in (λ k. f (suc k)) n m (omega arith)

marks_past : (f : ℕ → Bool) (n m : ℕ) → n ≤ m → is_flagged (marks f n) m ≡ false
unfolding marks
marks_past f zero m le = refl
marks_past f (suc n) zero le = absurd (omega arith)
marks_past f (suc n) (suc m) le = marks_past (λ k. f (suc k)) n m (omega arith)

-- of a property that only numbers below n have
marked : (f : ℕ → Bool) (n : ℕ) (P : ℕ → Type 0) → ((m : ℕ) → (f m ≡ true) ↔ P m) → ((m : ℕ) → P m → m < n) → (m : ℕ) → (is_flagged (marks f n) m ≡ true) ↔ P m
marked f n P is low m = (
  λ t. elim (cases_lt m n) [
    | inl lt ↦ (is m).0 (sym (marks_in f n m lt) ∙ t)
    | inr le ↦ absurd (both_ways (is_flagged (marks f n) m) (marks_past f n m le) t)
  ],
  λ p. marks_in f n m (low m p) ∙ (is m).1 p,
)

decided : {P : Type 0} → P ⊎ (P → ⊥) → Bool
decided (inl _) = true
decided (inr _) = false

decided-is : {P : Type 0} (d : P ⊎ (P → ⊥)) → (decided d ≡ true) ↔ P
unfolding decided
decided-is (inl p) = (λ _. p, λ _. refl)
decided-is (inr none) = (λ t. absurd (both_ways false refl t), λ p. absurd (none p))

-- an import ahead with what is left of it, and back with its flow
abbrev ahead : (Priced → ℕ) → Priced → Priced
ahead flow i = record { from = i.from; to = i.to; amount = i.amount - flow i }

abbrev back : (Priced → ℕ) → Priced → Priced
back flow i = record { from = i.to; to = i.from; amount = flow i }

abbrev IsOpen : Priced → Type 0
IsOpen i = 0 < i.amount

open_or_not : (i : Priced) → IsOpen i ⊎ (IsOpen i → ⊥)
open_or_not i = elim (cases_lt 0 i.amount) [ inl lt ↦ inl lt | inr le ↦ inr (λ lt. omega arith) ]

module _ (net : Network) (flow : Priced → ℕ) (a : ℕ) where
  abbrev residual : List Priced
  residual = map (ahead flow) net.imports ++ map (back flow) net.imports

  reaches : ℕ → Bool
  reaches m = decided (chain_or_none residual IsOpen open_or_not a m)

  reaches-is : (m : ℕ) → (reaches m ≡ true) ↔ Chain residual IsOpen a m
  unfolding reaches
  reaches-is m = decided-is (chain_or_none residual IsOpen open_or_not a m)

  goes : (modules : ℕ → Bool) → IsClosed net flow modules → (i : Priced) → Contains residual i → IsOpen i → modules i.from ≡ true → modules i.to ≡ true
  goes modules closed i there some t = elim (Contains-append_cases (map (ahead flow) net.imports) (map (back flow) net.imports) i there) [
    | inl first ↦
        let (j, c, e) = from_map (ahead flow) net.imports i first in
        subst (λ (k : Priced). IsOpen k → modules k.from ≡ true → modules k.to ≡ true) e (λ left u. closed.forward j c (omega arith) u) some t
    | inr second ↦
        let (j, c, e) = from_map (back flow) net.imports i second in
        subst (λ (k : Priced). IsOpen k → modules k.from ≡ true → modules k.to ≡ true) e (λ left u. closed.backward j c left u) some t
  ]

  along : (modules : ℕ → Bool) → IsClosed net flow modules → (m : ℕ) (more : List ℕ) (k : ℕ) → IsChain residual IsOpen m more k → modules m ≡ true → modules k ≡ true
  along modules closed m [] k e t = subst (λ (j : ℕ). modules j ≡ true) e t
  along modules closed m (n ∷ more) k ((i, c, ef, et, some), rest) t =
      along modules closed n more k rest (subst (λ (j : ℕ). modules j ≡ true) et (goes modules closed i c some (subst (λ (j : ℕ). modules j ≡ true) (sym ef) t)))

  onwards : (i : Priced) → Contains residual i → IsOpen i → reaches i.from ≡ true → reaches i.to ≡ true
  onwards i c some t = (reaches-is i.to).1 (joined residual IsOpen a i.from i.to ((reaches-is i.from).0 t) (step residual IsOpen i.to i c some ([], refl)))

  reaches_closed : IsClosed net flow reaches
  reaches_closed = record {
    forward = λ i c room t. onwards (ahead flow i) (Contains-append_left (map (ahead flow) net.imports) (map (back flow) net.imports) (ahead flow i) (in_map (ahead flow) net.imports i c)) (omega arith) t;
    backward = λ i c some t. onwards (back flow i) (Contains-append_right (map (ahead flow) net.imports) (map (back flow) net.imports) (back flow i) (in_map (back flow) net.imports i c)) some t;
  }

  reached : (m : ℕ) → (reaches m ≡ true) ↔ Reached net flow a m
  reached m = (
    λ t modules start closed. let chain = (reaches-is m).0 t in along modules closed a chain.0 m chain.1 start,
    λ r. r reaches ((reaches-is a).1 ([], refl)) reaches_closed,
  )

  -- only modules are reached
  low : AreBetween net.imports (length net.names) → a < length net.names → (m : ℕ) → Reached net flow a m → m < length net.names
  low between a_in m r =
      ltb-true m (length net.names)
      (r (λ k. nat_lt k (length net.names)) (lt-ltb a (length net.names) a_in)
      (record {
        forward = λ i c _ _. lt-ltb i.to (length net.names) (between i c).1;
        backward = λ i c _ _. lt-ltb i.from (length net.names) (between i c).0;
      }))

  pub near_marks : List Bool
  near_marks = marks reaches (length net.names)

  pub near_size : length near_marks ≡ length net.names
  unfolding near_marks
  near_size = marks_size reaches (length net.names)

  pub near_reached : AreBetween net.imports (length net.names) → a < length net.names → IsSetOf (is_flagged near_marks) (Reached net flow a)
  unfolding near_marks
  near_reached between a_in = marked reaches (length net.names) (Reached net flow a) reached (low between a_in)

-- the modules that have a path to b outside a set of imports, as marks
module _ (net : Network) (x : Priced → Bool) (b : ℕ) where
  goes_to : ℕ → Bool
  goes_to m = not (no_chain_to net.imports x b m)

  goes_to-is : (m : ℕ) → (goes_to m ≡ true) ↔ Chain net.imports (Outside x) m b
  unfolding goes_to
  goes_to-is m = (
    λ t. chain_from_false net.imports x b m (not-true (no_chain_to net.imports x b m) t),
    λ chain. not_from_false (no_chain_to net.imports x b m) (no_chain_to-false net.imports x b m chain),
  )

  from_low : AreBetween net.imports (length net.names) → b < length net.names → (m : ℕ) → Chain net.imports (Outside x) m b → m < length net.names
  from_low between b_in m ([], e) = subst (λ (k : ℕ). k < length net.names) (sym e) b_in
  from_low between b_in m (n ∷ more, ((i, c, ef, et, out), rest)) = subst (λ (k : ℕ). k < length net.names) ef (between i c).0

  pub far_marks : List Bool
  far_marks = marks goes_to (length net.names)

  pub far_chains : AreBetween net.imports (length net.names) → b < length net.names → (m : ℕ) → (is_flagged far_marks m ≡ true) ↔ Chain net.imports (Outside x) m b
  unfolding far_marks
  far_chains between b_in = marked goes_to (length net.names) (λ m. Chain net.imports (Outside x) m b) goes_to-is (from_low between b_in)
