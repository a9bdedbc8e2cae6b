-- The modules that the source reaches in the residual graph of a flow are the intersection of all source sides of minimum weight.
use Rattle.std.proofs.Common.{◌≡◌, ℕ, ◌≤◌, ◌<◌, Bool, true, false, cond, not, List, length, [], ◌∷◌, refl, sym, ◌∙◌, subst, arith, sum_by, inl, inr}
use Rattle.std.specs.Prelude.{Contains}
use Rattle.std.proofs.lemmas.Bool.{cases_Bool, both_ways, cond-true, not-true, and_parts, cases_lt, and_from, not_from_false}
use Rattle.cut_net.specs.declared.priced.Priced.{Priced}
use Rattle.cut_net.specs.Network.{Network}
use Rattle.cut_net.specs.WellFormed.{AreBetween}
use Rattle.cut_net.specs.Cuts.{IsCut, weight, IsCheapest, IsSide, leaves, IsMinimumSide, InSourceSide, AreReported, IsFlow, IsClosed, Reached, IsSetOf}
use Rattle.cut_net.proofs.ListSums.{sum_by-same, sum_by-mono, sum_by-tight}
use Rattle.cut_net.proofs.Chains.{no_chain_to}
use Rattle.cut_net.proofs.Duality.{value_within, across, enters, cond_le}
use Rattle.cut_net.proofs.PrintedCut.{cut_of_near, leaves_near}
use Rattle.cut_net.proofs.Certificate.{side_of_cut, leaves_in_cut, weight-mono, weak_duality}
use Rattle.std.proofs.lemmas.List.Sums.{sum_by-cons}

sum_of_none : (imports : List Priced) → sum_by (λ _. 0) imports ≡ 0
sum_of_none [] = refl
sum_of_none (i ∷ more) = let rest = sum_of_none more in omega (arith, sum_by-cons (λ (_ : Priced). 0) i more)

cond_same : (t : Bool) (x y : ℕ) → (t ≡ true → x ≡ y) → cond t x 0 ≡ cond t y 0
cond_same true x y h = h refl
cond_same false x y h = refl

cond_zero : (t : Bool) (x : ℕ) → (t ≡ true → x ≡ 0) → cond t x 0 ≡ 0
cond_zero true x h = h refl
cond_zero false x h = refl

at_true : (t : Bool) (x y : ℕ) → cond t x 0 ≡ y → t ≡ true → x ≡ y
at_true true x y e h = e
at_true false x y e h = absurd (both_ways false refl h)

module _ (net : Network) (a b : ℕ) (flow : Priced → ℕ) (value : ℕ) (between : AreBetween net.imports (length net.names)) (a_in : a < length net.names) (is_flow : IsFlow net a b flow value) where
  module _ (n : ℕ → Bool) (reached : IsSetOf n (Reached net flow a)) (ends : n b ≡ false) where
    has_start : n a ≡ true
    has_start = (reached a).1 (λ modules start _. start)

    closed : IsClosed net flow n
    closed = record {
      forward = λ i c room t. (reached i.to).1 (λ modules start is_closed. is_closed.forward i c room ((reached i.from).0 t modules start is_closed));
      backward = λ i c some t. (reached i.from).1 (λ modules start is_closed. is_closed.backward i c some ((reached i.to).0 t modules start is_closed));
    }

    side : IsSide net a b n
    side = record { start = has_start; end = ends }

    full : (i : Priced) → Contains net.imports i → leaves n i ≡ true → flow i ≡ i.amount
    full i c out =
        let parts = and_parts (n i.from) (not (n i.to)) out in
        let below = is_flow.within i c in
        elim (cases_lt (flow i) i.amount) [
          | inl room ↦ absurd (both_ways (n i.to) (not-true _ parts.1) (closed.forward i c room parts.0))
          | inr no_room ↦ omega arith
        ]

    empty : (i : Priced) → Contains net.imports i → enters n i ≡ true → flow i ≡ 0
    empty i c into =
        let parts = and_parts (not (n i.from)) (n i.to) into in
        elim (cases_lt 0 (flow i)) [
          | inl some ↦ absurd (both_ways (n i.from) (not-true _ parts.0) (closed.backward i c some parts.1))
          | inr none ↦ omega arith
        ]

    -- the weight of these imports is the value of the flow
    pub weight_is : weight net.imports (leaves n) ≡ value
    weight_is =
        let e = across net a b flow value n between a_in is_flow side in
        let none : sum_by (λ i. cond (enters n i) (flow i) 0) net.imports ≡ 0 =
        sum_by-same _ (λ _. 0) net.imports (λ i c. cond_zero (enters n i) (flow i) (empty i c)) ∙ sum_of_none net.imports in
        let all : sum_by (λ i. cond (leaves n i) (flow i) 0) net.imports ≡ weight net.imports (leaves n) =
        sum_by-same _ _ net.imports (λ i c. cond_same (leaves n i) (flow i) i.amount (full i c)) in
        omega arith

    pub is_least : IsMinimumSide net a b n
    is_least = record {
      is_side = side;
      least = λ other is_side. let within = value_within net a b flow value other between a_in is_flow is_side in let e = weight_is in omega arith;
    }

    -- a source side of minimum weight is closed
    least_is_closed : (other : ℕ → Bool) → IsMinimumSide net a b other → IsClosed net flow other
    least_is_closed other least =
        let e = across net a b flow value other between a_in is_flow least.is_side in
        let le = least.least n side in
        let w = weight_is in
        let below : (i : Priced) → Contains net.imports i → cond (leaves other i) (flow i) 0 ≤ cond (leaves other i) i.amount 0 =
        λ i c. cond_le (leaves other i) (flow i) i.amount (is_flow.within i c) in
        let sum_below : sum_by (λ i. cond (leaves other i) (flow i) 0) net.imports ≤ weight net.imports (leaves other) = sum_by-mono _ _ net.imports below in
        let zero_sum = sum_of_none net.imports in
        record {
          forward = λ i c room t. elim (cases_Bool (other i.to)) [
            | inl u ↦ u
            | inr f ↦
                let out : leaves other i ≡ true = and_from _ _ t (not_from_false _ f) in
                let same = sum_by-tight _ _ net.imports below (omega arith) i c.0 c.1 c.2 in
                let eq : flow i ≡ i.amount = at_true (leaves other i) (flow i) i.amount (same ∙ cond-true (leaves other i) i.amount 0 out) out in
                absurd (omega arith)
          ];
          backward = λ i c some t. elim (cases_Bool (other i.from)) [
            | inl u ↦ u
            | inr f ↦
                let into : enters other i ≡ true = and_from _ _ (not_from_false _ f) t in
                let same : 0 ≡ cond (enters other i) (flow i) 0 =
                sum_by-tight (λ _. 0) (λ j. cond (enters other j) (flow j) 0) net.imports (λ j _. omega arith) (omega arith) i c.0 c.1 c.2 in
                let eq : flow i ≡ 0 = at_true (enters other i) (flow i) 0 (sym same) into in
                absurd (omega arith)
          ];
        }

    pub is_near : IsSetOf n (InSourceSide net a b)
    is_near m =
        (λ t other least. (reached m).0 t other least.is_side.start (least_is_closed other least), λ near. near n is_least)

    -- the imports that are reported
    module _ (x : Priced → Bool) (printed : AreReported net a b x) where
      pub is_cut : IsCut net a b x
      is_cut = cut_of_near net a b n is_near x printed side

      pub weighs : weight net.imports x ≡ value
      weighs =
          let above = weight-mono net.imports x (leaves n) (leaves_near net a b n is_near x printed) in
          let e = weight_is in
          let w = value_within net a b flow value (no_chain_to net.imports x b) between a_in is_flow (side_of_cut net a b x is_cut) in
          let le = weight-mono net.imports _ x (leaves_in_cut net.imports b x) in
          omega arith

      pub is_cheapest : IsCheapest net a b x
      is_cheapest = weak_duality net a b x flow between a_in is_cut (subst (IsFlow net a b flow) (sym weighs) is_flow)
