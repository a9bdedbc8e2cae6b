-- Adding an import's amount to the sum of one of its ends.
use Rattle.std.proofs.Common.{◌≡◌, ℕ, ◌+◌, ◌*◌, ◌^◌, ◌≤◌, ◌<◌, Bool, cond, eqb, List, length, get_or, set, take, sym, ap, ◌∙◌, arith, inl, inr, sum_by, get_or-set_same, get_or-set_other}
use Rattle.std.proofs.lemmas.Bool.{cases_eq, eq-eqb, ne_eqb}
use Rattle.std.proofs.lemmas.List.{get_or_default}
use Rattle.std.proofs.lemmas.List.Sums.{sum_by_more}
use Rattle.cut_net.specs.declared.priced.Priced.{Priced}
use Rattle.cut_net.specs.WellFormed.{AreBetween}
use Rattle.cut_check.specs.Reaching.{any}

pub to_in : (imports : List Priced) (modules k : ℕ) → AreBetween imports modules → k < length imports → (get_or imports k any).to < modules
to_in imports modules k between h = (between (get_or imports k any) (k, h, get_or_default imports k (get_or imports k any) any h)).1

pub from_in : (imports : List Priced) (modules k : ℕ) → AreBetween imports modules → k < length imports → (get_or imports k any).from < modules
from_in imports modules k between h = (between (get_or imports k any) (k, h, get_or_default imports k (get_or imports k any) any h)).0

-- sums of a few amounts of 64 bits have room for one more
pub adding_fits : (sums : List ℕ) (k x : ℕ) → k < 65536 → x < 2 ^ 64 → ((m : ℕ) → get_or sums m 0 ≤ k * 2 ^ 64) → (index : ℕ) → get_or sums index 0 + x < 2 ^ 128
adding_fits sums k x few small below index = let here = below index in omega arith

pub adding_most : (sums : List ℕ) (k x : ℕ) → x < 2 ^ 64 → ((m : ℕ) → get_or sums m 0 ≤ k * 2 ^ 64) → (index : ℕ) → index < length sums →
    (m : ℕ) → get_or (set sums index (get_or sums index 0 + x)) m 0 ≤ (k + 1) * 2 ^ 64
adding_most sums k x small below index in_place m =
    elim (cases_eq m index) [
      | inl e ↦ let here = below index in rw (e, get_or-set_same sums index (get_or sums index 0 + x) 0 in_place) (omega arith)
      | inr ne ↦ let here = below m in rw (get_or-set_other sums index m (get_or sums index 0 + x) 0 ne) (omega arith)
    ]

module _ (imports : List Priced) (k : ℕ) (d : Priced) (in_k : k < length imports) (sums : List ℕ) (x : ℕ) where
  pub adding_more : (end : Priced → ℕ) (flow : Priced → ℕ) (modules : ℕ) →
      ((m : ℕ) → m < modules → get_or sums m 0 ≡ sum_by (λ i. cond (eqb (end i) m) (flow i) 0) (take k imports)) → x ≡ flow (get_or imports k d) → end (get_or imports k d) < length sums →
      (m : ℕ) → m < modules → get_or (set sums (end (get_or imports k d)) (get_or sums (end (get_or imports k d)) 0 + x)) m 0 ≡ sum_by (λ i. cond (eqb (end i) m) (flow i) 0) (take (k + 1) imports)
  adding_more end flow modules so_far x_is in_place m in_m =
      let index = end (get_or imports k d) in
      let more = sum_by_more (λ i. cond (eqb (end i) m) (flow i) 0) imports k d in_k in
      elim (cases_eq m index) [
        | inl e ↦
            let was = so_far m in_m in
            let term : cond (eqb index m) (flow (get_or imports k d)) 0 ≡ x = ap (λ (t : Bool). cond t (flow (get_or imports k d)) 0) (eq-eqb index m (sym e)) ∙ sym x_is in
            let now : get_or (set sums index (get_or sums index 0 + x)) m 0 ≡ get_or sums m 0 + x = rw e (get_or-set_same sums index (get_or sums index 0 + x) 0 in_place) in
            omega arith
        | inr ne ↦
            let was = so_far m in_m in
            let term : cond (eqb index m) (flow (get_or imports k d)) 0 ≡ 0 = ap (λ (t : Bool). cond t (flow (get_or imports k d)) 0) (ne_eqb index m (λ e. ne (sym e))) in
            let now = get_or-set_other sums index m (get_or sums index 0 + x) 0 ne in
            omega arith
      ]
