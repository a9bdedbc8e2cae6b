-- A flow in whose residual graph b isn't reachable from a has the maximum value.
use Rattle.std.proofs.Common.{◌≡◌, ℕ, ◌≤◌, ◌<◌, Bool, true, false, cond, not, List, [], ◌∷◌, length, refl, ◌∙◌, arith, sum_by, inl, inr}
use Rattle.std.proofs.lemmas.Bool.{cases_Bool, both_ways, and_parts, not-true, cases_lt}
use Rattle.std.proofs.lemmas.List.Sums.{sum_by-cons}
use Rattle.cut_net.specs.declared.priced.Priced.{Priced}
use Rattle.cut_net.specs.Network.{Network}
use Rattle.cut_net.specs.WellFormed.{AreBetween}
use Rattle.cut_net.specs.Cuts.{leaves, weight, IsSetOf, IsFlow, Reached}
use Rattle.cut_net.proofs.ListSums.{sum_by-same}
use Rattle.cut_net.proofs.Duality.{across, enters, value_within}
use Rattle.cut_part.specs.CapacityReduction.{IsUnreachable, IsResidualBarrier}

sum_of_none : (imports : List Priced) → sum_by (λ _. 0) imports ≡ 0
sum_of_none [] = refl
sum_of_none (i ∷ more) = let rest = sum_of_none more in omega (arith, sum_by-cons (λ (_ : Priced). 0) i more)

cond_same : (t : Bool) (x y : ℕ) → (t ≡ true → x ≡ y) → cond t x 0 ≡ cond t y 0
cond_same true x y h = h refl
cond_same false x y h = refl

cond_zero : (t : Bool) (x : ℕ) → (t ≡ true → x ≡ 0) → cond t x 0 ≡ 0
cond_zero true x h = h refl
cond_zero false x h = refl

module _ (net : Network) (a b : ℕ) (flow : Priced → ℕ) (value : ℕ) (between : AreBetween net.imports (length net.names)) (a_in : a < length net.names) (is_flow : IsFlow net a b flow value) where
  -- the imports that leave a separating set weigh as much as the flow's value
  pub barrier_weighs : (modules : ℕ → Bool) → IsResidualBarrier net flow a b modules → weight net.imports (leaves modules) ≡ value
  barrier_weighs modules barrier =
      let e = across net a b flow value modules between a_in is_flow (record { start = barrier.start; end = barrier.end }) in
      let none : sum_by (λ i. cond (enters modules i) (flow i) 0) net.imports ≡ 0 =
      sum_by-same (λ i. cond (enters modules i) (flow i) 0) (λ _. 0) net.imports (λ i c. cond_zero (enters modules i) (flow i) (λ t.
      let parts = and_parts (not (modules i.from)) (modules i.to) t in
      elim (cases_lt 0 (flow i)) [
        | inl some ↦ absurd (both_ways (modules i.from) (not-true _ parts.0) (barrier.closed.backward i c some parts.1))
        | inr none ↦ omega arith
      ])) ∙ sum_of_none net.imports in
      let all : sum_by (λ i. cond (leaves modules i) (flow i) 0) net.imports ≡ weight net.imports (leaves modules) =
      sum_by-same _ _ net.imports (λ i c. cond_same (leaves modules i) (flow i) i.amount (λ t.
      let parts = and_parts (modules i.from) (not (modules i.to)) t in
      let le = is_flow.within i c in
      elim (cases_lt (flow i) i.amount) [
        | inl room ↦ absurd (both_ways (modules i.to) (not-true _ parts.1) (barrier.closed.forward i c room parts.0))
        | inr none ↦ omega arith
      ])) in
      omega arith

  pub most : IsUnreachable net flow a b → (other : Priced → ℕ) (more : ℕ) → IsFlow net a b other more → more ≤ value
  most barred other more other_is =
      let e = barrier_weighs barred.0 barred.1 in
      let le = value_within net a b other more barred.0 between a_in other_is (record { start = barred.1.start; end = barred.1.end }) in
      omega arith

-- so what is reached lacks b
pub end_unreached : (net : Network) (a b : ℕ) (flow : Priced → ℕ) (modules : ℕ → Bool) → IsUnreachable net flow a b → IsSetOf modules (Reached net flow a) → modules b ≡ false
end_unreached net a b flow modules barred those =
    elim (cases_Bool (modules b)) [
      | inl t ↦ absurd (both_ways (barred.0 b) barred.1.end ((those b).0 t barred.0 barred.1.start barred.1.closed))
      | inr f ↦ f
    ]

-- and where b isn't reached they don't lead to it
pub barrier_by_reached : (net : Network) (a b : ℕ) (flow : Priced → ℕ) (modules : ℕ → Bool) → IsSetOf modules (Reached net flow a) → modules b ≡ false → IsResidualBarrier net flow a b modules
barrier_by_reached net a b flow modules those end = record {
  start = (those a).1 (λ _ start _. start);
  end = end;
  closed = record {
    forward = λ i c room t. (those i.to).1 (λ other start closed. closed.forward i c room ((those i.from).0 t other start closed));
    backward = λ i c some t. (those i.from).1 (λ other start closed. closed.backward i c some ((those i.to).0 t other start closed));
  };
}
