-- Exactly one verdict holds for a path of pinned imports.
use Rattle.std.proofs.Common.{◌≡◌, ℕ, ◌+◌, ◌-◌, ◌<◌, List, length, get_or, refl, sym, ap, ◌∙◌, arith, inl, inr}
use Rattle.std.proofs.lemmas.Bool.{cases_eq, cases_lt, cases_order}
use Rattle.cut_net.specs.Network.{Network}
use Rattle.cut_net.specs.Pins.{ByPin, IsPinChain}
use Rattle.cut_net.specs.AnswerClaim.{BlockedBy}
use Rattle.cut_check.specs.Verdicts.{AreChainEnds, HasVerdict, IsChainVerdict, IsFirstUnpinned, IsPinnedAt}
use Rattle.cut_check.specs.declared.verdict.Verdict.{Verdict}
use Rattle.cut_check.specs.declared.verdict.Verdict.TheVariants.{Yes, NoSuchImport, StillChain, WrongWeight, OverWeight, NotKept, WrongValue, NotPinned}
use Rattle.cut_check.proofs.PinChains.{ends_of, import_or_none, pinned_of, pinned_or_not, to_chain}
use Rattle.cut_check.proofs.SomeVerdict.{below, everywhere, first_not}

module _ (net : Network) (a b : ℕ) (chain : List ℕ) where
  after_ends : AreChainEnds a b chain → HasVerdict net a b (BlockedBy chain)
  after_ends ends =
      let lt = ends.0 in
      elim (below (IsPinnedAt net chain) (λ k. import_or_none net.imports (ByPin net) (pinned_or_not net) (get_or chain k 0) (get_or chain (k + 1) 0)) (length chain - 1)) [
        | everywhere all ↦ (Yes, to_chain net a b chain ends (λ k within. all k (omega arith)))
        | first_not k within fails before ↦ (
          NotPinned (get_or chain k 0) (get_or chain (k + 1) 0),
          (ends, record { index = k; within = omega arith; ends = (refl, refl); unpinned = fails; before = before }),
        )
      ]

  pub some_chain_verdict : HasVerdict net a b (BlockedBy chain)
  some_chain_verdict = elim (cases_lt 0 (length chain)) [
    | inr none ↦ (StillChain, λ ends. let lt = ends.0 in absurd (omega arith))
    | inl lt ↦ elim (cases_eq (get_or chain 0 0) a) [
      | inr ne ↦ (StillChain, λ ends. ne ends.1)
      | inl first ↦ elim (cases_eq (get_or chain (length chain - 1) 0) b) [
        | inr ne ↦ (StillChain, λ ends. ne ends.2)
        | inl last ↦ after_ends (lt, first, last)
      ]
    ]
  ]

  earlier : (from to f t : ℕ) (s : IsFirstUnpinned net chain from to) (r : IsFirstUnpinned net chain f t) → s.index < r.index → ⊥
  earlier from to f t s r lt = s.unpinned (r.before s.index lt)

  same_unpinned : (from to f t : ℕ) → IsFirstUnpinned net chain from to → IsFirstUnpinned net chain f t → NotPinned from to ≡ NotPinned f t
  same_unpinned from to f t s r = elim (cases_order s.index r.index) [
    | inl e ↦
        let from_is : from ≡ f = sym s.ends.0 ∙ ap (λ k. get_or chain k 0) e ∙ r.ends.0 in
        let to_is : to ≡ t = sym s.ends.1 ∙ ap (λ k. get_or chain (k + 1) 0) e ∙ r.ends.1 in
        rw (from_is, to_is) refl
    | inr h ↦ elim h [ inl lt ↦ absurd (earlier from to f t s r lt) | inr lt ↦ absurd (earlier f t from to r s lt) ]
  ]

  all_pinned : (from to : ℕ) → IsPinChain net a b chain → IsFirstUnpinned net chain from to → ⊥
  all_pinned from to p s = s.unpinned (pinned_of net a b chain p s.index s.within)

  Is : Verdict → Type 0
  Is v = IsChainVerdict net a b chain v

  yes_only : Is Yes → (w : Verdict) → Is w → Yes ≡ w
  unfolding Is
  yes_only p Yes q = refl
  yes_only p (NoSuchImport f t) q = absurd q
  yes_only p StillChain q = absurd (q (ends_of net a b chain p))
  yes_only p WrongWeight q = absurd q
  yes_only p (OverWeight f t) q = absurd q
  yes_only p (NotKept n) q = absurd q
  yes_only p WrongValue q = absurd q
  yes_only p (NotPinned f t) q = absurd (all_pinned f t p q.1)

  ends_only : Is StillChain → (w : Verdict) → Is w → StillChain ≡ w
  unfolding Is
  ends_only p Yes q = absurd (p (ends_of net a b chain q))
  ends_only p (NoSuchImport f t) q = absurd q
  ends_only p StillChain q = refl
  ends_only p WrongWeight q = absurd q
  ends_only p (OverWeight f t) q = absurd q
  ends_only p (NotKept n) q = absurd q
  ends_only p WrongValue q = absurd q
  ends_only p (NotPinned f t) q = absurd (p q.0)

  unpinned_only : (from to : ℕ) → Is (NotPinned from to) → (w : Verdict) → Is w → NotPinned from to ≡ w
  unfolding Is
  unpinned_only from to p Yes q = absurd (all_pinned from to q p.1)
  unpinned_only from to p (NoSuchImport f t) q = absurd q
  unpinned_only from to p StillChain q = absurd (q p.0)
  unpinned_only from to p WrongWeight q = absurd q
  unpinned_only from to p (OverWeight f t) q = absurd q
  unpinned_only from to p (NotKept n) q = absurd q
  unpinned_only from to p WrongValue q = absurd q
  unpinned_only from to p (NotPinned f t) q = same_unpinned from to f t p.1 q.1

  pub only_chain_verdict : (v w : Verdict) → IsChainVerdict net a b chain v → IsChainVerdict net a b chain w → v ≡ w
  unfolding Is
  only_chain_verdict Yes w p q = yes_only p w q
  only_chain_verdict (NoSuchImport from to) w p q = absurd p
  only_chain_verdict StillChain w p q = ends_only p w q
  only_chain_verdict WrongWeight w p q = absurd p
  only_chain_verdict (OverWeight from to) w p q = absurd p
  only_chain_verdict (NotKept m) w p q = absurd p
  only_chain_verdict WrongValue w p q = absurd p
  only_chain_verdict (NotPinned from to) w p q = unpinned_only from to p w q
