-- Paths of pinned imports, by consecutive modules.
use Rattle.std.proofs.Common.{◌≡◌, ℕ, zero, suc, ◌+◌, ◌-◌, ◌<◌, Bool, true, ◌&&◌, List, [], ◌∷◌, length, get_or, sym, ap, ap₂, ◌∙◌, subst, arith, ◌⊎◌, inl, inr}
use Rattle.std.specs.Prelude.{◌==◌, Contains, find, is_some}
use Rattle.std.proofs.lemmas.Bool.{both_ways, cases_Bool, cases_eq}
use Rattle.std.proofs.lemmas.List.Elements.{All-contains}
use Rattle.cut_net.specs.declared.priced.Priced.{Priced}
use Rattle.cut_net.specs.Network.{Network}
use Rattle.cut_net.specs.Cuts.{Imports, IsChain, have_equal_ends}
use Rattle.cut_net.specs.Lines.{IsImport}
use Rattle.cut_net.specs.Pins.{is_pinned, ArePins, ByPin, IsPinChain, PinChain}
use Rattle.cut_net.proofs.Ends.{same_from}
use Rattle.cut_net.proofs.ListSums.{here, present}
use Rattle.cut_check.specs.Verdicts.{AreChainEnds, IsPinnedAt}

found_member : (p : Priced → Bool) (xs : List Priced) → is_some (find p xs) ≡ true → (x : Priced) × Contains xs x × (p x ≡ true)
found_member p [] e = absurd cc
found_member p (x ∷ xs) e = elim (cases_Bool (p x)) [
  | inl t ↦ (x, here x xs, t)
  | inr f ↦ let rest = found_member p xs (rw f at e) in (rest.0, present x xs rest.0 rest.1, rest.2)
]

pinned_by_ends : (net : Network) (i j : Priced) → i.from ≡ j.from → i.to ≡ j.to → is_pinned net i ≡ is_pinned net j
pinned_by_ends net i j ef et = ap₂ (λ (f : ℕ) (t : ℕ). is_some (find (λ (l : Priced). (f == l.from) && (t == l.to)) net.pins)) ef et

-- ends of a pin are those of a pinned import
pub from_pin : (net : Network) → ArePins net → (pair : Priced) → is_pinned net pair ≡ true → Imports net.imports (ByPin net) pair.from pair.to
from_pin net pins pair t =
    let (pin, present, same) = found_member (have_equal_ends pair) net.pins t in
    let (i, c, ef, et, _) = All-contains (IsImport net) net.pins pin pins.in_order.known present in
    let ends = same_from pair pin same in
    let from_is = ef ∙ sym ends.from in
    let to_is = et ∙ sym ends.to in
    (i, c, from_is, to_is, pinned_by_ends net i pair from_is to_is ∙ t)

-- whether an allowed import leads from the one module to the other
import_at : (x : Priced) (xs : List Priced) (Allowed : Priced → Type 0) (m n : ℕ) (i : Priced) (k : ℕ) → k < length (x ∷ xs) → get_or (x ∷ xs) k i ≡ i →
    i.from ≡ m → i.to ≡ n → Allowed i → ((x.from ≡ m) × (x.to ≡ n) × Allowed x) ⊎ Imports xs Allowed m n
import_at x xs Allowed m n i zero lt e ef et al = inl (ap (λ (j : Priced). j.from) e ∙ ef, ap (λ (j : Priced). j.to) e ∙ et, subst Allowed (sym e) al)
import_at x xs Allowed m n i (suc k) lt e ef et al = inr (i, (k, omega arith, e), ef, et, al)

pub import_or_none : (imports : List Priced) (Allowed : Priced → Type 0) → ((i : Priced) → (Allowed i) ⊎ (Allowed i → ⊥)) → (m n : ℕ) →
    (Imports imports Allowed m n) ⊎ (Imports imports Allowed m n → ⊥)
import_or_none [] Allowed decide m n = inr (λ s. let lt = s.1.1 in absurd (omega arith))
import_or_none (x ∷ xs) Allowed decide m n =
    let more : ((x.from ≡ m) × (x.to ≡ n) × Allowed x → ⊥) → (Imports xs Allowed m n → ⊥) → Imports (x ∷ xs) Allowed m n → ⊥ =
    λ not_here none s. elim (import_at x xs Allowed m n s.0 s.1.0 s.1.1 s.1.2 s.2 s.3 s.4) [ inl h ↦ not_here h | inr h ↦ none h ] in
    elim (import_or_none xs Allowed decide m n) [
      | inl s ↦ inl (s.0, present x xs s.0 s.1, s.2, s.3, s.4)
      | inr none ↦ elim (cases_eq x.from m) [
        | inr ne ↦ inr (more (λ h. ne h.0) none)
        | inl ef ↦ elim (cases_eq x.to n) [
          | inr ne ↦ inr (more (λ h. ne h.1) none)
          | inl et ↦ elim (decide x) [
            | inr not_x ↦ inr (more (λ h. not_x h.2) none)
            | inl al ↦ inl (x, here x xs, ef, et, al)
          ]
        ]
      ]
    ]

pub pinned_or_not : (net : Network) (i : Priced) → (ByPin net i) ⊎ (ByPin net i → ⊥)
pinned_or_not net i = elim (cases_Bool (is_pinned net i)) [ inl t ↦ inl t | inr f ↦ inr (λ t. both_ways _ f t) ]

-- a pinned import leads from each module to the next
abbrev pub ArePinned : Network → List ℕ → Type 0
ArePinned net chain = (k : ℕ) → k + 1 < length chain → IsPinnedAt net chain k

module _ (net : Network) where
  next_place : (k : ℕ) → suc k + 1 ≡ suc (k + 1)
  next_place k = omega arith

  behind_first : (m : ℕ) (more : List ℕ) (k : ℕ) → IsPinnedAt net (m ∷ more) (suc k) → IsPinnedAt net more k
  behind_first m more k = subst (λ j. Imports net.imports (ByPin net) (get_or more k 0) (get_or (m ∷ more) j 0)) (next_place k)

  with_first : (m : ℕ) (more : List ℕ) (k : ℕ) → IsPinnedAt net more k → IsPinnedAt net (m ∷ more) (suc k)
  with_first m more k = subst (λ j. Imports net.imports (ByPin net) (get_or more k 0) (get_or (m ∷ more) j 0)) (sym (next_place k))

  chain_from : (m : ℕ) (more : List ℕ) (b : ℕ) → ArePinned net (m ∷ more) → get_or (m ∷ more) (length more) 0 ≡ b → IsChain net.imports (ByPin net) m more b
  chain_from m [] b pinned e = e
  chain_from m (n ∷ more) b pinned e = (pinned 0 (omega arith), chain_from n more b (λ k lt. behind_first m (n ∷ more) k (pinned (suc k) (omega arith))) e)

  chain_last : (m : ℕ) (more : List ℕ) (b : ℕ) → IsChain net.imports (ByPin net) m more b → get_or (m ∷ more) (length more) 0 ≡ b
  chain_last m [] b e = e
  chain_last m (n ∷ more) b (s, rest) = chain_last n more b rest

  chain_pinned : (m : ℕ) (more : List ℕ) (b : ℕ) → IsChain net.imports (ByPin net) m more b → ArePinned net (m ∷ more)
  chain_pinned m [] b e k lt = absurd (omega arith)
  chain_pinned m (n ∷ more) b (s, rest) zero lt = s
  chain_pinned m (n ∷ more) b (s, rest) (suc k) lt = with_first m (n ∷ more) k (chain_pinned n more b rest k (omega arith))

  pub to_chain : (a b : ℕ) (chain : List ℕ) → AreChainEnds a b chain → ArePinned net chain → IsPinChain net a b chain
  to_chain a b [] ends pinned = let lt = ends.0 in absurd (omega arith)
  to_chain a b (m ∷ more) ends pinned = (ends.1, chain_from m more b pinned (ap (λ k. get_or (m ∷ more) k 0) (omega arith) ∙ ends.2))

  pub ends_of : (a b : ℕ) (chain : List ℕ) → IsPinChain net a b chain → AreChainEnds a b chain
  ends_of a b [] h = absurd h
  ends_of a b (m ∷ more) h = (omega arith, h.0, ap (λ k. get_or (m ∷ more) k 0) (omega arith) ∙ chain_last m more b h.1)

  pub pinned_of : (a b : ℕ) (chain : List ℕ) → IsPinChain net a b chain → ArePinned net chain
  pinned_of a b [] h = absurd h
  pinned_of a b (m ∷ more) h = chain_pinned m more b h.1

  pub pinned_next : ArePins net → (chain : List ℕ) (k : ℕ) (pair : Priced) → 0 < k → pair.from ≡ get_or chain (k - 1) 0 → pair.to ≡ get_or chain k 0 → is_pinned net pair ≡ true →
      ((j : ℕ) → j + 1 < k → IsPinnedAt net chain j) → (j : ℕ) → j + 1 < k + 1 → IsPinnedAt net chain j
  pinned_next pins chain k pair above ef et t before j lt = elim (cases_eq (j + 1) k) [
    | inr ne ↦ before j (omega arith)
    | inl e ↦
        let s = from_pin net pins pair t in
        let at : k - 1 ≡ j = omega arith in
        (s.0, s.1, s.2 ∙ ef ∙ ap (λ n. get_or chain n 0) at, s.3 ∙ et ∙ ap (λ n. get_or chain n 0) (sym e), s.4)
  ]

  pub pin_chain : (a b : ℕ) (chain : List ℕ) → IsPinChain net a b chain → PinChain net a b
  pin_chain a b [] h = absurd h
  pin_chain a b (m ∷ more) h = (more, subst (λ j. IsChain net.imports (ByPin net) j more b) h.0 h.1)
