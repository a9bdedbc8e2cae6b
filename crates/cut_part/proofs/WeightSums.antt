-- Reducing the weight of one import, and updating the sums of weights.
use Rattle.std.proofs.Common.{◌≡◌, ◌≢◌, ◌⊎◌, ℕ, ◌-◌, ◌≤◌, ◌<◌, cond, eqb, List, [], length, get_or, set, refl, sym, ap, ◌∙◌, subst, arith, sum_by, inl, inr}
use Rattle.std.proofs.lemmas.Bool.{cases_eq, eq-eqb, ne_eqb}
use Rattle.std.proofs.lemmas.List.{get_or-set_same, get_or-set_other, length-set, set-get_or}
use Rattle.std.proofs.lemmas.List.Sums.{sum_by-set}
use Rattle.cut_net.specs.declared.priced.Priced.{Priced}
use Rattle.cut_net.specs.Network.{missing_item}
use Rattle.cut_part.specs.CapacityReduction.{import_in, weighing, reweighed, IsEnough, IsReduced}
use Rattle.cut_part.specs.WeightSums.{AreWeightSums, IsReducedWeight, ReducesTo}
use Rattle.cut_part.proofs.Sums.{sum_one}
use Rattle.cut_part.proofs.CapacityReduction.{ends_reweighed, lowered_at, narrowed_none, narrowed_twice, renumbering, still_between}

-- the sums with the weight of one import reduced
module _ (imports : List Priced) (k amount : ℕ) (present : k < length imports) (below : amount ≤ (import_in imports k).amount) (end : Priced → ℕ) (same_end : end (weighing (import_in imports k) amount) ≡ end (import_in imports k)) where
  within_sum : (import_in imports k).amount ≤ sum_by (λ i. cond (eqb (end i) (end (import_in imports k))) i.amount 0) imports
  within_sum =
      let one = sum_one (λ i. cond (eqb (end i) (end (import_in imports k))) i.amount 0) imports k missing_item present in
      let same : cond (eqb (end (import_in imports k)) (end (import_in imports k))) (import_in imports k).amount 0 ≡ (import_in imports k).amount =
      ap (λ t. cond t (import_in imports k).amount 0) (eq-eqb (end (import_in imports k)) (end (import_in imports k)) refl) in
      omega arith

  less : (sums : List ℕ) (modules : ℕ) → length sums ≡ modules → end (import_in imports k) < modules →
      ((m : ℕ) → m < modules → get_or sums m 0 ≡ sum_by (λ i. cond (eqb (end i) m) i.amount 0) imports) →
      (m : ℕ) → m < modules → get_or (set sums (end (import_in imports k)) (get_or sums (end (import_in imports k)) 0 - ((import_in imports k).amount - amount))) m 0
      ≡ sum_by (λ i. cond (eqb (end i) m) i.amount 0) (set imports k (weighing (import_in imports k) amount))
  less sums modules size place_in are m m_in =
      let i = import_in imports k in
      let place = end i in
      let changed = sum_by-set (λ j. cond (eqb (end j) m) j.amount 0) imports k (weighing i amount) missing_item present in
      let was = are m m_in in
      elim (cases_eq m place) [
        | inl e ↦
            let all = within_sum in
            let at_place = are place place_in in
            let old_term : cond (eqb place m) i.amount 0 ≡ i.amount = ap (λ t. cond t i.amount 0) (eq-eqb place m (sym e)) in
            let new_term : cond (eqb (end (weighing i amount)) m) amount 0 ≡ amount = ap (λ t. cond t amount 0) (eq-eqb (end (weighing i amount)) m (same_end ∙ sym e)) in
            let value : get_or sums m 0 ≡ get_or sums place 0 = ap (λ n. get_or sums n 0) e in
            let now : get_or (set sums place (get_or sums place 0 - (i.amount - amount))) m 0 ≡ get_or sums place 0 - (i.amount - amount) =
            ap (λ n. get_or (set sums place (get_or sums place 0 - (i.amount - amount))) n 0) e ∙ get_or-set_same sums place (get_or sums place 0 - (i.amount - amount)) 0 (omega arith) in
            omega arith
        | inr ne ↦
            let old_term : cond (eqb place m) i.amount 0 ≡ 0 = ap (λ t. cond t i.amount 0) (ne_eqb place m (λ e. ne (sym e))) in
            let new_term : cond (eqb (end (weighing i amount)) m) amount 0 ≡ 0 = ap (λ t. cond t amount 0) (ne_eqb (end (weighing i amount)) m (λ e. ne (sym e ∙ same_end))) in
            let now = get_or-set_other sums place m (get_or sums place 0 - (i.amount - amount)) 0 ne in
            omega arith
      ]

module _ (imports : List Priced) (out into : List ℕ) (are : AreWeightSums imports out into) (k : ℕ) (present : k < length imports) where
  pub from_in : (import_in imports k).from < length out
  from_in = (are.between (import_in imports k) (renumbering imports k present)).0

  pub to_in : (import_in imports k).to < length out
  to_in = (are.between (import_in imports k) (renumbering imports k present)).1

  pub weight_leaves : (import_in imports k).amount ≤ get_or out (import_in imports k).from 0
  weight_leaves =
      let all = within_sum imports k (import_in imports k).amount present (omega arith) (λ i. i.from) refl in
      let is = are.leave (import_in imports k).from from_in in
      omega arith

  pub weight_enters : (import_in imports k).amount ≤ get_or into (import_in imports k).to 0
  weight_enters =
      let all = within_sum imports k (import_in imports k).amount present (omega arith) (λ i. i.to) refl in
      let is = are.enter (import_in imports k).to to_in in
      omega arith

  pub lowered_tallies : (amount : ℕ) → amount ≤ (import_in imports k).amount →
      AreWeightSums (set imports k (weighing (import_in imports k) amount))
      (set out (import_in imports k).from (get_or out (import_in imports k).from 0 - ((import_in imports k).amount - amount)))
      (set into (import_in imports k).to (get_or into (import_in imports k).to 0 - ((import_in imports k).amount - amount)))
  lowered_tallies amount below =
      let i = import_in imports k in
      let out_size = length-set out i.from (get_or out i.from 0 - (i.amount - amount)) in
      let into_size = length-set into i.to (get_or into i.to 0 - (i.amount - amount)) in
      let sizes = are.sizes in
      record {
        sizes = omega arith;
        between = rw out_size (still_between (set imports k (weighing i amount)) imports (length out) (ends_reweighed (record { names = []; imports = imports; pins = [] }) k amount) are.between);
        leave = λ m h. less imports k amount present below (λ j. j.from) refl out (length out) refl from_in are.leave m (omega arith);
        enter = λ m h. less imports k amount present below (λ j. j.to) refl into (length out) sizes to_in are.enter m (omega arith);
      }

  -- a step where there is room, and none where there is not
  step : (a b amount : ℕ) → a < length out → a ≢ b → amount ≤ (import_in imports k).amount →
      ((amount ≡ (import_in imports k).amount) ⊎ ((names : List (List ℕ)) (pins : List Priced) → IsEnough (record { names = names; imports = imports; pins = pins }) a b (import_in imports k) amount)) →
      ReducesTo (length out) imports (set imports k (weighing (import_in imports k) amount)) a b
  step a b amount a_in apart below enough names pins size =
      elim enough [
        | inl e ↦
            let same : set imports k (weighing (import_in imports k) amount) ≡ imports = ap (λ n. set imports k (weighing (import_in imports k) n)) e ∙ set-get_or imports k missing_item in
            subst (λ (new : List Priced). IsReduced (record { names = names; imports = imports; pins = pins }) (record { names = names; imports = new; pins = pins }) a b) (sym same) (narrowed_none (record { names = names; imports = imports; pins = pins }) a b)
        | inr is ↦
            lowered_at (record { names = names; imports = imports; pins = pins }) (reweighed (record { names = names; imports = imports; pins = pins }) k amount) a b k amount (rw size are.between) (omega arith) apart
            (record { present = present; below = below; enough = is names pins; changed = refl })
      ]

  pub narrows_into : (a b amount : ℕ) → a < length out → a ≢ b → (import_in imports k).to ≢ b → IsReducedWeight (import_in imports k).amount amount (get_or out (import_in imports k).to 0) →
      ReducesTo (length out) imports (set imports k (weighing (import_in imports k) amount)) a b
  narrows_into a b amount a_in apart not_b room =
      step a b amount a_in apart room.below (elim room.enough [
        | inl e ↦ inl e
        | inr le ↦ inr (λ names pins. let is = are.leave (import_in imports k).to to_in in inl (not_b, omega arith))
      ])

  pub narrows_out : (a b amount : ℕ) → a < length out → a ≢ b → (import_in imports k).from ≢ a → IsReducedWeight (import_in imports k).amount amount (get_or into (import_in imports k).from 0) →
      ReducesTo (length out) imports (set imports k (weighing (import_in imports k) amount)) a b
  narrows_out a b amount a_in apart not_a room =
      step a b amount a_in apart room.below (elim room.enough [
        | inl e ↦ inl e
        | inr le ↦ inr (λ names pins. let is = are.enter (import_in imports k).from from_in in inr (not_a, omega arith))
      ])

pub narrows_twice : (modules : ℕ) (one two three : List Priced) (a b : ℕ) → ReducesTo modules one two a b → ReducesTo modules two three a b → ReducesTo modules one three a b
narrows_twice modules one two three a b first second names pins size =
    narrowed_twice (record { names = names; imports = one; pins = pins }) (record { names = names; imports = two; pins = pins }) (record { names = names; imports = three; pins = pins }) a b (first names pins size) (second names pins size)
