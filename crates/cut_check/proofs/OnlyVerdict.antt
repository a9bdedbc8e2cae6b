-- At most one verdict holds: each later verdict implies what an earlier one denies.
use Rattle.std.proofs.Common.{◌≡◌, ℕ, zero, suc, [], ◌∷◌, ◌+◌, ◌≤◌, ◌<◌, List, length, take, refl, sym, ap, ◌∙◌, subst, arith, inl, inr}
use Rattle.std.specs.Prelude.{Option, Some, slice_get}
use Rattle.std.proofs.lemmas.Bool.{cases_order}
use Rattle.std.proofs.lemmas.List.{get_or-take, length-take-le}
use Rattle.std.proofs.lemmas.Option.{slice_get_within, get_or_from_slice_get}
use Rattle.cut_net.specs.declared.priced.Priced.{Priced}
use Rattle.cut_net.specs.Network.{Network}
use Rattle.cut_net.specs.Lines.{AreImportsInOrder, flow_by}
use Rattle.cut_net.specs.Pins.{IsValidClaimWithPins}
use Rattle.cut_check.specs.Verdicts.{AreConserved, AreImportLines, AreWithinWeights, IsFirstUnbalanced, IsFirstOverWeight, IsFirstInvalidIn, IsFirstInvalidLine, IsCutVerdict}
use Rattle.cut_check.specs.declared.verdict.Verdict.{Verdict}
use Rattle.cut_check.specs.declared.verdict.Verdict.TheVariants.{Yes, NoSuchImport, StillChain, WrongWeight, OverWeight, NotKept, WrongValue, NotPinned}
use Rattle.cut_check.proofs.Parts.{front_in_order}

take-take : (m n : ℕ) (xs : List Priced) → m ≤ n → take m (take n xs) ≡ take m xs
take-take zero n xs le = refl
take-take (suc m) zero xs le = absurd (omega arith)
take-take (suc m) (suc n) [] le = refl
take-take (suc m) (suc n) (x ∷ xs) le = ap (λ (l : List Priced). x ∷ l) (take-take m n xs (omega arith))

abbrev some : Priced → Option Priced
some x = Some x

some_is : (x y : Priced) → some x ≡ some y → x ≡ y
some_is x y e = cc

-- the same ends
record Ends (from to f t : ℕ) : Type 0 where
  from_is : from ≡ f
  to_is : to ≡ t

same_place : (xs : List Priced) (p q : ℕ) (x y : Priced) (from to f t : ℕ) → p ≡ q → slice_get xs p ≡ Some x → slice_get xs q ≡ Some y →
    (x.from ≡ from) × (x.to ≡ to) → (y.from ≡ f) × (y.to ≡ t) → Ends from to f t
same_place xs p q x y from to f t e at_p at_q x_ends y_ends =
    let same : x ≡ y = some_is x y (sym at_p ∙ ap (slice_get xs) e ∙ at_q) in
    record { from_is = sym x_ends.0 ∙ ap (λ (v : Priced). v.from) same ∙ y_ends.0; to_is = sym x_ends.1 ∙ ap (λ (v : Priced). v.to) same ∙ y_ends.1 }

module _ (net : Network) (lines : List Priced) where
  later_stray : (from to f t : ℕ) (s : IsFirstInvalidIn net lines from to) (r : IsFirstInvalidIn net lines f t) → s.index < r.index → ⊥
  later_stray from to f t s r lt =
      let in_lines = slice_get_within lines r.index r.line r.at_index in
      let len : length (take r.index lines) ≡ r.index = length-take-le r.index lines (omega arith) in
      s.stray (subst (AreImportsInOrder net) (take-take (s.index + 1) r.index lines (omega arith)) (front_in_order net (take r.index lines) (s.index + 1) (omega arith) r.before))

  stray_same : (from to f t : ℕ) → IsFirstInvalidIn net lines from to → IsFirstInvalidIn net lines f t → Ends from to f t
  stray_same from to f t s r = elim (cases_order s.index r.index) [
    | inl e ↦ same_place lines s.index r.index s.line r.line from to f t e s.at_index r.at_index s.ends r.ends
    | inr h ↦ elim h [ inl lt ↦ absurd (later_stray from to f t s r lt) | inr lt ↦ absurd (later_stray f t from to r s lt) ]
  ]

  not_stray : (from to : ℕ) → AreImportsInOrder net lines → IsFirstInvalidIn net lines from to → ⊥
  not_stray from to o s = let in_lines = slice_get_within lines s.index s.line s.at_index in s.stray (front_in_order net lines (s.index + 1) (omega arith) o)

module _ (net : Network) (flow : Priced → ℕ) where
  earlier_over : (from to f t : ℕ) (s : IsFirstOverWeight net flow from to) (r : IsFirstOverWeight net flow f t) → s.index < r.index → ⊥
  earlier_over from to f t s r lt =
      let in_s = slice_get_within net.imports s.index s.import s.at_index in
      let in_r = slice_get_within net.imports r.index r.import r.at_index in
      let len : length (take r.index net.imports) ≡ r.index = length-take-le r.index net.imports (omega arith) in
      r.before s.import (s.index, omega arith, get_or-take r.index net.imports s.index s.import lt ∙ get_or_from_slice_get net.imports s.index s.import s.import s.at_index) s.free s.over

  over_same : (from to f t : ℕ) → IsFirstOverWeight net flow from to → IsFirstOverWeight net flow f t → Ends from to f t
  over_same from to f t s r = elim (cases_order s.index r.index) [
    | inl e ↦ same_place net.imports s.index r.index s.import r.import from to f t e s.at_index r.at_index s.ends r.ends
    | inr h ↦ elim h [ inl lt ↦ absurd (earlier_over from to f t s r lt) | inr lt ↦ absurd (earlier_over f t from to r s lt) ]
  ]

  not_over : (from to : ℕ) → AreWithinWeights net flow → IsFirstOverWeight net flow from to → ⊥
  not_over from to under s =
      under s.import (s.index, slice_get_within net.imports s.index s.import s.at_index, get_or_from_slice_get net.imports s.index s.import s.import s.at_index) s.free s.over

  off_same : (a b m n : ℕ) → IsFirstUnbalanced net a b flow m → IsFirstUnbalanced net a b flow n → m ≡ n
  off_same a b m n s r = elim (cases_order m n) [
    | inl e ↦ e
    | inr h ↦ elim h [ inl lt ↦ absurd (r.least m lt s.off) | inr lt ↦ absurd (s.least n lt r.off) ]
  ]

module _ (net : Network) (a b : ℕ) (printed : List Priced) (total : ℕ) (flow : List Priced) where
  Is : Verdict → Type 0
  Is v = IsCutVerdict net a b printed total flow v

  no_stray : (from to : ℕ) → AreImportLines net printed flow → IsFirstInvalidLine net printed flow from to → ⊥
  no_stray from to read (inl s) = not_stray net printed from to read.printed_in_order s
  no_stray from to read (inr (_, s)) = not_stray net flow from to read.flow_in_order s

  strays_same : (from to f t : ℕ) → IsFirstInvalidLine net printed flow from to → IsFirstInvalidLine net printed flow f t → Ends from to f t
  strays_same from to f t (inl s) (inl r) = stray_same net printed from to f t s r
  strays_same from to f t (inl s) (inr (o, _)) = absurd (not_stray net printed from to o s)
  strays_same from to f t (inr (o, _)) (inl r) = absurd (not_stray net printed f t o r)
  strays_same from to f t (inr (_, s)) (inr (_, r)) = stray_same net flow from to f t s r

  read_of : IsValidClaimWithPins net a b printed total flow → AreImportLines net printed flow
  read_of r = record { printed_in_order = r.printed_in_order; flow_in_order = r.flow_in_order }

  under_of : IsValidClaimWithPins net a b printed total flow → AreWithinWeights net (flow_by flow)
  under_of r i c free over = let le = r.is_flow.within i c free in absurd (omega arith)

  kept_of : IsValidClaimWithPins net a b printed total flow → AreConserved net a b (flow_by flow)
  kept_of r m off = off.2 (r.is_flow.kept m off.0 off.1)

  stray_only : (from to : ℕ) → Is (NoSuchImport from to) → (w : Verdict) → Is w → NoSuchImport from to ≡ w
  unfolding Is
  stray_only from to p (NoSuchImport f t) q = let e = strays_same from to f t p q in rw (e.from_is, e.to_is) refl
  stray_only from to p StillChain q = absurd (no_stray from to q.0 p)
  stray_only from to p WrongWeight q = absurd (no_stray from to q.0.read p)
  stray_only from to p (OverWeight f t) q = absurd (no_stray from to q.0.read p)
  stray_only from to p (NotKept n) q = absurd (no_stray from to q.0.read p)
  stray_only from to p WrongValue q = absurd (no_stray from to q.0.read p)
  stray_only from to p Yes q = absurd (no_stray from to (read_of q) p)
  stray_only from to p (NotPinned f t) q = absurd q

  chain_only : Is StillChain → (w : Verdict) → Is w → StillChain ≡ w
  unfolding Is
  chain_only p (NoSuchImport f t) q = absurd (no_stray f t p.0 q)
  chain_only p StillChain q = refl
  chain_only p WrongWeight q = absurd (q.0.no_chain p.1)
  chain_only p (OverWeight f t) q = absurd (q.0.no_chain p.1)
  chain_only p (NotKept n) q = absurd (q.0.no_chain p.1)
  chain_only p WrongValue q = absurd (q.0.no_chain p.1)
  chain_only p Yes q = absurd (q.cut p.1)
  chain_only p (NotPinned f t) q = absurd q

  weight_only : Is WrongWeight → (w : Verdict) → Is w → WrongWeight ≡ w
  unfolding Is
  weight_only p (NoSuchImport f t) q = absurd (no_stray f t p.0.read q)
  weight_only p StillChain q = absurd (p.0.no_chain q.1)
  weight_only p WrongWeight q = refl
  weight_only p (OverWeight f t) q = absurd (p.1 q.1)
  weight_only p (NotKept n) q = absurd (p.1 q.1)
  weight_only p WrongValue q = absurd (p.1 q.1)
  weight_only p Yes q = absurd (p.1 q.weights)
  weight_only p (NotPinned f t) q = absurd q

  over_only : (from to : ℕ) → Is (OverWeight from to) → (w : Verdict) → Is w → OverWeight from to ≡ w
  unfolding Is
  over_only from to p (NoSuchImport f t) q = absurd (no_stray f t p.0.read q)
  over_only from to p StillChain q = absurd (p.0.no_chain q.1)
  over_only from to p WrongWeight q = absurd (q.1 p.1)
  over_only from to p (OverWeight f t) q = let e = over_same net (flow_by flow) from to f t p.2 q.2 in rw (e.from_is, e.to_is) refl
  over_only from to p (NotKept n) q = absurd (not_over net (flow_by flow) from to q.2 p.2)
  over_only from to p WrongValue q = absurd (not_over net (flow_by flow) from to q.2 p.2)
  over_only from to p Yes q = absurd (not_over net (flow_by flow) from to (under_of q) p.2)
  over_only from to p (NotPinned f t) q = absurd q

  off_only : (m : ℕ) → Is (NotKept m) → (w : Verdict) → Is w → NotKept m ≡ w
  unfolding Is
  off_only m p (NoSuchImport f t) q = absurd (no_stray f t p.0.read q)
  off_only m p StillChain q = absurd (p.0.no_chain q.1)
  off_only m p WrongWeight q = absurd (q.1 p.1)
  off_only m p (OverWeight f t) q = absurd (not_over net (flow_by flow) f t p.2 q.2)
  off_only m p (NotKept n) q = ap NotKept (off_same net (flow_by flow) a b m n p.3 q.3)
  off_only m p WrongValue q = absurd (q.3 m p.3.off)
  off_only m p Yes q = absurd (kept_of q m p.3.off)
  off_only m p (NotPinned f t) q = absurd q

  value_only : Is WrongValue → (w : Verdict) → Is w → WrongValue ≡ w
  unfolding Is
  value_only p (NoSuchImport f t) q = absurd (no_stray f t p.0.read q)
  value_only p StillChain q = absurd (p.0.no_chain q.1)
  value_only p WrongWeight q = absurd (q.1 p.1)
  value_only p (OverWeight f t) q = absurd (not_over net (flow_by flow) f t p.2 q.2)
  value_only p (NotKept n) q = absurd (p.3 n q.3.off)
  value_only p WrongValue q = refl
  value_only p Yes q = absurd (p.4 q.is_flow.at_start)
  value_only p (NotPinned f t) q = absurd q

  yes_only : Is Yes → (w : Verdict) → Is w → Yes ≡ w
  unfolding Is
  yes_only p (NoSuchImport f t) q = absurd (no_stray f t (read_of p) q)
  yes_only p StillChain q = absurd (p.cut q.1)
  yes_only p WrongWeight q = absurd (q.1 p.weights)
  yes_only p (OverWeight f t) q = absurd (not_over net (flow_by flow) f t (under_of p) q.2)
  yes_only p (NotKept n) q = absurd (kept_of p n q.3.off)
  yes_only p WrongValue q = absurd (q.4 p.is_flow.at_start)
  yes_only p Yes q = refl
  yes_only p (NotPinned f t) q = absurd q

  pub only_verdict : (v w : Verdict) → IsCutVerdict net a b printed total flow v → IsCutVerdict net a b printed total flow w → v ≡ w
  unfolding Is
  only_verdict (NoSuchImport from to) w p q = stray_only from to p w q
  only_verdict StillChain w p q = chain_only p w q
  only_verdict WrongWeight w p q = weight_only p w q
  only_verdict (OverWeight from to) w p q = over_only from to p w q
  only_verdict (NotKept m) w p q = off_only m p w q
  only_verdict WrongValue w p q = value_only p w q
  only_verdict Yes w p q = yes_only p w q
  only_verdict (NotPinned from to) w p q = absurd p
