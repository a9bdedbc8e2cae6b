-- The sums of amounts as inflow and outflow of a flow.
use Rattle.std.proofs.Common.{◌≡◌, ◌≢◌, ℕ, ◌+◌, ◌≤◌, ◌<◌, Bool, false, cond, length, get_or, take, List, refl, sym, ap, ◌∙◌, subst, arith, inl, inr, Option, sum_by}
use Rattle.std.specs.Prelude.{Contains}
use Rattle.std.proofs.lemmas.Bool.{cases_lt, ne_eqb}
use Rattle.std.proofs.lemmas.List.{get_or-take, length-take-le}
use Rattle.std.proofs.lemmas.Option.{get_or_from_slice_get, slice_get_within}
use Rattle.cut_net.specs.declared.priced.Priced.{Priced}
use Rattle.cut_net.specs.Network.{Network}
use Rattle.cut_net.specs.Cuts.{entering, leaving}
use Rattle.cut_net.specs.Pins.{is_pinned}
use Rattle.cut_net.specs.WellFormed.{AreBetween}
use Rattle.cut_net.proofs.ListSums.{sum_by-same}
use Rattle.cut_check.specs.Verdicts.{AreConserved, AreWithinWeights, HasValue, IsFirstUnbalanced, IsFirstOverWeight}
use Rattle.cut_check.specs.Sums.{AreAmounts, AreSums, AreWithin, IsFirstAbove}

-- beyond the last module nothing flows
pub beyond : (net : Network) (modules : ℕ) (flow : Priced → ℕ) → AreBetween net.imports modules → (m : ℕ) → modules ≤ m → entering net.imports flow m ≡ leaving net.imports flow m
beyond net modules flow between m h =
    let none_in : entering net.imports flow m ≡ sum_by (λ _. 0) net.imports = sum_by-same _ (λ _. 0) net.imports (λ i c.
    let in' = (between i c).1 in ap (λ (t : Bool). cond t (flow i) 0) (ne_eqb i.to m (omega arith))) in
    let none_out : leaving net.imports flow m ≡ sum_by (λ _. 0) net.imports = sum_by-same _ (λ _. 0) net.imports (λ i c.
    let in' = (between i c).0 in ap (λ (t : Bool). cond t (flow i) 0) (ne_eqb i.from m (omega arith))) in
    none_in ∙ sym none_out

module _ (net : Network) (flow : Priced → ℕ) (amounts : List (Option ℕ)) (are : AreAmounts net.imports flow amounts) where
  pub within : AreWithin net amounts (length net.imports) → (i : Priced) → Contains net.imports i → is_pinned net i ≡ false → flow i ≤ i.amount
  within w i c free =
      subst (λ v. flow v ≤ v.amount) c.2 (subst (λ n. n ≤ (get_or net.imports c.0 i).amount) (are c.0 i c.1) (w c.0 i c.1 (ap (is_pinned net) c.2 ∙ free)))

  pub are_under : AreWithin net amounts (length net.imports) → AreWithinWeights net flow
  are_under w i c free over = let le = within w i c free in absurd (omega arith)

  pub first_over : (i : Priced) → IsFirstAbove net amounts i → IsFirstOverWeight net flow i.from i.to
  first_over i p = record {
    index = p.index;
    import = i;
    at_index = p.at_index;
    ends = (refl, refl);
    free = p.free;
    over =
        let in_place : p.index < length net.imports = slice_get_within net.imports p.index i p.at_index in
        let flow_is = are p.index i in_place ∙ ap flow (get_or_from_slice_get net.imports p.index i i p.at_index) in
        let above = p.above in
        omega arith;
    before = λ j c free over.
        let q = c.0 in
        let in_take = c.1 in
        let in_place : p.index < length net.imports = slice_get_within net.imports p.index i p.at_index in
        let len : length (take p.index net.imports) ≡ p.index = length-take-le p.index net.imports (omega arith) in
        let q_in : q < p.index = omega arith in
        let j_is : get_or net.imports q j ≡ j = sym (get_or-take p.index net.imports q j q_in) ∙ c.2 in
        let small : flow (get_or net.imports q j) ≤ (get_or net.imports q j).amount = subst (λ n. n ≤ (get_or net.imports q j).amount) (are q j (omega arith)) (p.before q j q_in (ap (is_pinned net) j_is ∙ free)) in
        let le : flow j ≤ j.amount = subst (λ v. flow v ≤ v.amount) j_is small in
        absurd (omega arith);
  }

module _ (net : Network) (modules a b : ℕ) (between : AreBetween net.imports modules) (a_in : a < modules) (flow : Priced → ℕ) (into out : List ℕ) (sums : AreSums net.imports flow modules into out) where
  same_sums : (m : ℕ) → m < modules → get_or into m 0 ≡ get_or out m 0 → entering net.imports flow m ≡ leaving net.imports flow m
  same_sums m in_m e = sym (sums.into_is m in_m) ∙ e ∙ sums.out_is m in_m

  pub first_unbalanced : (m : ℕ) → m < modules → m ≢ a → m ≢ b → get_or into m 0 ≢ get_or out m 0 →
      ((n : ℕ) → n < m → n ≢ a → n ≢ b → get_or into n 0 ≡ get_or out n 0) → IsFirstUnbalanced net a b flow m
  first_unbalanced m in_m not_a not_b differ kept = record {
    off = (not_a, not_b, λ e. differ (sums.into_is m in_m ∙ e ∙ sym (sums.out_is m in_m)));
    least = λ n lt off. off.2 (same_sums n (omega arith) (kept n lt off.0 off.1));
  }

  module _ (kept : (m : ℕ) → m < modules → m ≢ a → m ≢ b → get_or into m 0 ≡ get_or out m 0) where
    pub kept_all : (m : ℕ) → m ≢ a → m ≢ b → entering net.imports flow m ≡ leaving net.imports flow m
    kept_all m not_a not_b = elim (cases_lt m modules) [
      | inl in_m ↦ same_sums m in_m (kept m in_m not_a not_b)
      | inr out_m ↦ beyond net modules flow between m out_m
    ]

    pub are_kept : AreConserved net a b flow
    are_kept m off = off.2 (kept_all m off.0 off.1)

  pub value_from : (total : ℕ) → get_or into a 0 + total ≡ get_or out a 0 → HasValue net a flow total
  value_from total e = let into_is = sums.into_is a a_in in let out_is = sums.out_is a a_in in omega arith

  pub value_back : (total : ℕ) → HasValue net a flow total → get_or into a 0 + total ≡ get_or out a 0
  value_back total e = let into_is = sums.into_is a a_in in let out_is = sums.out_is a a_in in omega arith
