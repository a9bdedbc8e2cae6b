-- The outcome of two names is unique but for the flow.
use Rattle.std.proofs.Common.{◌≡◌, ◌≢◌, ℕ, suc, inl, inr, true, List, [], ◌∷◌, Option, Some, Result, Ok, Err, refl, sym, ap, ◌∙◌, subst, arith, Ordering}
use Rattle.std.specs.Prelude.{Contains, IfSome, IsTrue, find}
use Rattle.std.specs.Cmp.Lexicographic.{nat_list_cmp_total, slice_cmp}
use Rattle.std.specs.FinMap.{nat_cmp-IsAntisymmetric, slice_cmp-IsAntisymmetric}
use Rattle.std.specs.Ordering.{nat_cmp, ordering_reverse}
use Rattle.std.specs.declared.cmp.Ordering.TheVariants.{Less, Equal, Greater}
use Rattle.std.proofs.lemmas.Bool.{both_ways, cases_Bool}
use Rattle.std.proofs.lemmas.List.Elements.{All-contains}
use Rattle.std.proofs.lemmas.Option.{same_Some}
use Rattle.digraph.proofs.Ascending.{same_members}
use Rattle.digraph.proofs.Members.{first_or_later, no_member}
use Rattle.cut_net.specs.declared.priced.Priced.{Priced}
use Rattle.cut_net.specs.Network.{Network}
use Rattle.cut_net.specs.AnswerClaim.{AnswerClaim, CutOf, BlockedBy}
use Rattle.cut_net.specs.Cuts.{IsChain, have_equal_ends, weight}
use Rattle.cut_net.specs.Lines.{IsAscending, IsImport, comes_before, removed_by}
use Rattle.cut_net.specs.Pins.{ByPin, IsAnswerWithPins, IsCutAnswerWithPins, IsLeastPinChain, IsPinChain, PinChain}
use Rattle.cut_net.proofs.Ends.{apart, before_from, one_way, same_from, same_true}
use Rattle.cut_net.proofs.PinChains.{found_one, one_found}
use Rattle.cut_solve.specs.Solving.{AreEqualAnswers, AreEqualOutcomes, IsSolveOutcome, IsSolved, SolveError}
use Rattle.cut_solve.proofs.Refusals.{error_is_unique}

-- of lines in order the one with the import's ends is found
found_is : (i : Priced) (lines : List Priced) (z : Priced) → IsAscending lines → Contains lines z → have_equal_ends i z ≡ true → find (have_equal_ends i) lines ≡ Some z
found_is i [] z up has same = no_member z has
found_is i (l ∷ lines) z up has same = elim (cases_Bool (have_equal_ends i l)) [
  | inr f ↦ rw f (elim (first_or_later l lines z has) [
    | inl e ↦ absurd (both_ways (have_equal_ends i l) f (subst (λ (k : Priced). have_equal_ends i k ≡ true) (sym e) same))
    | inr later ↦ found_is i lines z (λ j k d less in_k. up (suc j) (suc k) d (omega arith) (omega arith)) later same
  ])
  | inl t ↦ rw t (elim (first_or_later l lines z has) [
    | inl e ↦ ap (λ (k : Priced). Some k) e
    | inr (k, in_k, at_k) ↦
        let before : comes_before l z ≡ true = subst (λ (y : Priced). comes_before l y ≡ true) at_k (up 0 (suc k) z (omega arith) (omega arith)) in
        let first = same_from i l t in
        let second = same_from i z same in
        absurd (apart {i = l} {j = z} (before_from l z before) (record { from = sym first.from ∙ second.from; to = sym first.to ∙ second.to }))
  ])
]

-- the reported imports are as the definition prints them, and so one list
module _ (net : Network) (a b : ℕ) (total : ℕ) (printed flow : List Priced) (answer : IsCutAnswerWithPins net a b printed total flow)
    (again : ℕ) (others more : List Priced) (other : IsCutAnswerWithPins net a b others again more) where
  over : (z : Priced) → Contains printed z → Contains others z
  over z has =
      let (i, there, from, to, any) = All-contains (IsImport net) printed z answer.right.printed_in_order.known has in
      let same = same_true i z (record { from = from; to = to }) in
      let out = (other.are_printed i there).1 ((answer.are_printed i there).0 (one_found i printed z has same)) in
      let (y, in_others, fits) = found_one i others out in
      let first = subst (λ (o : Option Priced). IfSome o (λ line. line.amount ≡ i.amount)) (found_is i printed z answer.right.printed_in_order.ascending has same) (answer.right.weights.each i there) in
      let second = subst (λ (o : Option Priced). IfSome o (λ line. line.amount ≡ i.amount)) (found_is i others y other.right.printed_in_order.ascending in_others fits) (other.right.weights.each i there) in
      let ends = same_from i y fits in
      let from_is : y.from ≡ z.from = sym ends.from ∙ from in
      let to_is : y.to ≡ z.to = sym ends.to ∙ to in
      let amount_is : y.amount ≡ z.amount = second ∙ sym first in
      let e : y ≡ z = λ k. record { from = from_is k; to = to_is k; amount = amount_is k } in
      subst (Contains others) e in_others

both_before : (i j : Priced) → IsTrue (comes_before i j) → IsTrue (comes_before j i) → ⊥
both_before i j first second = one_way {i = i} {j = j} (before_from i j first) (before_from j i second)

one_cut : (net : Network) (a b total : ℕ) (printed flow : List Priced) (again : ℕ) (others more : List Priced) → IsCutAnswerWithPins net a b printed total flow → IsCutAnswerWithPins net a b others again more →
    (total ≡ again) × (printed ≡ others)
one_cut net a b total printed flow again others more answer other =
    let same : printed ≡ others =
    same_members (λ i j. IsTrue (comes_before i j)) both_before printed others answer.right.printed_in_order.ascending other.right.printed_in_order.ascending
    (over net a b total printed flow answer again others more other) (over net a b again others more other total printed flow answer) in
    (answer.right.weights.sum ∙ ap (λ (v : List Priced). weight net.imports (removed_by v)) same ∙ sym other.right.weights.sum, same)

-- a least path is one
tied : (r s : Ordering) → r ≡ ordering_reverse s → r ≢ Greater → s ≢ Greater → r ≡ Equal
tied Less Less e low high = absurd cc
tied Less Equal e low high = absurd cc
tied Less Greater e low high = absurd (high refl)
tied Equal s e low high = refl
tied Greater s e low high = absurd (low refl)

one_chain : (net : Network) (a b : ℕ) (chain other : List ℕ) → IsLeastPinChain net a b chain → IsLeastPinChain net a b other → chain ≡ other
one_chain net a b chain other first second =
    let le = first.fewest other second.is_chain in
    let ge = second.fewest chain first.is_chain in
    slice_cmp-IsAntisymmetric nat_cmp-IsAntisymmetric chain other
    (tied (slice_cmp nat_cmp chain other) (slice_cmp nat_cmp other chain) (nat_list_cmp_total.antisymm chain other)
    (first.least other second.is_chain (omega arith)) (second.least chain first.is_chain (omega arith)))

chain_of : (net : Network) (a b : ℕ) (chain : List ℕ) → IsPinChain net a b chain → PinChain net a b
chain_of net a b [] none = absurd none
chain_of net a b (m ∷ more) (e, chain) = (more, subst (λ (n : ℕ). IsChain net.imports (ByPin net) n more b) e chain)

one_said : (net : Network) (a b : ℕ) (claim other : AnswerClaim) → IsAnswerWithPins net a b claim → IsAnswerWithPins net a b other → AreEqualAnswers claim other
one_said net a b (CutOf total printed flow) (CutOf again others more) first second = one_cut net a b total printed flow again others more first second
one_said net a b (CutOf total printed flow) (BlockedBy chain) first second = absurd (first.free (chain_of net a b chain second.is_chain))
one_said net a b (BlockedBy chain) (CutOf total printed flow) first second = absurd (second.free (chain_of net a b chain first.is_chain))
one_said net a b (BlockedBy chain) (BlockedBy other) first second = one_chain net a b chain other first second

one_solved : (net : Network) (from to : List ℕ) (claim other : AnswerClaim) → IsSolved net from to claim → IsSolved net from to other → AreEqualAnswers claim other
one_solved net from to claim other first second =
    let a_is = same_Some second.a first.a (sym second.from_is ∙ first.from_is) in
    let b_is = same_Some second.b first.b (sym second.to_is ∙ first.to_is) in
    one_said net first.a first.b claim other first.answer
    (subst (λ (m : ℕ). IsAnswerWithPins net m first.b other) a_is (subst (λ (m : ℕ). IsAnswerWithPins net second.a m other) b_is second.answer))

pub outcome_is_unique_but_for_flow : (net : Network) (from to : List ℕ) (o p : Result AnswerClaim SolveError) → IsSolveOutcome net from to o → IsSolveOutcome net from to p → AreEqualOutcomes o p
outcome_is_unique_but_for_flow net from to (Ok claim) (Ok other) first second = one_solved net from to claim other first second
outcome_is_unique_but_for_flow net from to (Err refusal) (Ok other) first second = let e = error_is_unique net from to refusal (Ok other) first second in absurd cc
outcome_is_unique_but_for_flow net from to (Ok claim) (Err refusal) first second = let e = error_is_unique net from to refusal (Ok claim) second first in absurd cc
outcome_is_unique_but_for_flow net from to (Err refusal) (Err other) first second = let e = error_is_unique net from to refusal (Err other) first second in cc
