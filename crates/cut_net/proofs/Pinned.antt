-- Cuts and flows with pins agree with those without regard to pins, since a pinned import weighs more than every cut of unpinned ones.
use Rattle.std.proofs.Common.{◌≡◌, ◌≢◌, ℕ, ◌≤◌, ◌<◌, Bool, true, false, cond, not, List, [], ◌∷◌, length, get_or, refl, ap, arith, sum_by, inl, inr}
use Rattle.std.specs.Prelude.{◌↔◌, Contains, find, is_some}
use Rattle.std.proofs.lemmas.Bool.{cases_Bool, cases_lt, both_ways, not-true, not_from_false}
use Rattle.std.proofs.lemmas.List.Sums.{get_or-le-sum_by}
use Rattle.cut_net.specs.declared.priced.Priced.{Priced}
use Rattle.cut_net.specs.Network.{Network}
use Rattle.cut_net.specs.AnswerClaim.{AnswerClaim, CutOf, BlockedBy}
use Rattle.cut_net.specs.WellFormed.{AreBetween}
use Rattle.cut_net.specs.Cuts.{Chain, Outside, IsCut, IsCheapest, IsSide, IsMinimumSide, InSourceSide, LeavesSourceSide, AreReported, IsFlow, leaves, have_equal_ends, weight, without}
use Rattle.cut_net.specs.Lines.{removed_by, IsAnswer, IsCheapestAnswer}
use Rattle.cut_net.specs.Pins.{is_pinned, IsRemovable, PinChain, ByPin, IsCutWithPins, IsCheapestWithPins, IsSideWithPins, IsMinimumSideWithPins, InSourceSideWithPins, LeavesSourceSideWithPins, AreReportedWithPins, IsFlowWithPins, IsAnswerWithPins, IsCheapestAnswerWithPins, ArePins, unpinned_weight}
use Rattle.cut_net.proofs.Certificate.{side_of_cut, leaves_in_cut, weight-mono}
use Rattle.cut_net.proofs.Chains.{no_chain_to, widened}
use Rattle.cut_net.proofs.Duality.{across_kept}
use Rattle.cut_net.proofs.ListSums.{sum_by-mono}
use Rattle.cut_net.proofs.Needed.{needed}

-- no import is pinned where there is no pin
pinned_some : (i : Priced) (pins : List Priced) → is_some (find (have_equal_ends i) pins) ≡ true → 0 < length pins
pinned_some i [] e = absurd cc
pinned_some i (p ∷ pins) e = omega arith

-- an import of the set weighs no more than the set
member_within : (imports : List Priced) (x : Priced → Bool) (i : Priced) → Contains imports i → x i ≡ true → i.amount ≤ weight imports x
member_within imports x i (k, lt, is) has =
    let le = get_or-le-sum_by (λ j. cond (x j) j.amount 0) imports k i lt in
    let here : cond (x (get_or imports k i)) (get_or imports k i).amount 0 ≡ i.amount = rw (is, has) refl in
    omega arith

weight_if_unpinned : (t p : Bool) (c : ℕ) → (t ≡ true → p ≡ false) → cond t c 0 ≤ cond p 0 c
weight_if_unpinned false p c free = omega arith
weight_if_unpinned true p c free = rw (free refl) (omega arith)

-- a removable set weighs no more than all imports without a pin
removable_within : (net : Network) (x : Priced → Bool) → IsRemovable net x → weight net.imports x ≤ unpinned_weight net
removable_within net x free = sum_by-mono _ _ net.imports (λ i c. weight_if_unpinned (x i) (is_pinned net i) i.amount (free i c))

-- whether an import has no pin
abbrev pub is_free : Network → Priced → Bool
is_free net i = not (is_pinned net i)

free_outside : (net : Network) (i : Priced) → Outside (is_free net) i → ByPin net i
free_outside net i out = elim (cases_Bool (is_pinned net i)) [ inl t ↦ t | inr f ↦ absurd (both_ways (is_free net i) out (not_from_false _ f)) ]

-- no path of pins: the imports without a pin are a cut
free_cut : (net : Network) (a b : ℕ) → (PinChain net a b → ⊥) → IsCut net a b (is_free net)
free_cut net a b none chain = none (chain.0, widened net.imports net.imports (Outside (is_free net)) (ByPin net) (λ i c out. (c, free_outside net i out)) a chain.0 b chain.1)

-- a path of pinned imports avoids every set without pinned imports
pub no_cut : (net : Network) (a b : ℕ) (x : Priced → Bool) → PinChain net a b → IsCutWithPins net a b x → ⊥
no_cut net a b x chain cut =
    cut.cut (
      chain.0,
      widened net.imports net.imports (ByPin net) (Outside x)
          (λ i c pinned. (c, elim (cases_Bool (x i)) [ inl t ↦ absurd (both_ways (is_pinned net i) (cut.removable i c t) pinned) | inr f ↦ f ])) a chain.0 b chain.1,
    )

module _ (net : Network) (a b : ℕ) (pins : ArePins net) (none : PinChain net a b → ⊥) where
  -- the modules without a path of pinned imports to b: no pinned import leaves them
  abbrev far : ℕ → Bool
  far = no_chain_to net.imports (is_free net) b

  far_side : IsSide net a b far
  far_side = side_of_cut net a b (is_free net) (free_cut net a b none)

  far_free : IsRemovable net (leaves far)
  far_free i c out = not-true _ (leaves_in_cut net.imports b (is_free net) i c out)

  -- a set that weighs no more than all unpinned imports has no pinned import
  light_free : (x : Priced → Bool) → weight net.imports x ≤ weight net.imports (is_free net) → IsRemovable net x
  light_free x le i c has = elim (cases_Bool (is_pinned net i)) [
    | inr f ↦ f
    | inl t ↦
        let light = pins.light (pinned_some i net.pins t) in
        let heavy = pins.heavy i c t in
        let part = member_within net.imports x i c has in
        let most = removable_within net (is_free net) (λ j d free. not-true _ free) in
        absurd (omega arith)
  ]

  far_light : weight net.imports (leaves far) ≤ weight net.imports (is_free net)
  far_light = weight-mono net.imports (leaves far) (is_free net) (leaves_in_cut net.imports b (is_free net))

  least_is : (side : ℕ → Bool) → IsMinimumSide net a b side → IsMinimumSideWithPins net a b side
  least_is side least = record {
    is_side = record { is_side = least.is_side; removable = light_free (leaves side) (let le = least.least far far_side in let light = far_light in omega arith) };
    least = λ other is. least.least other is.is_side;
  }

  least_of : (side : ℕ → Bool) → IsMinimumSideWithPins net a b side → IsMinimumSide net a b side
  least_of side least = record {
    is_side = least.is_side.is_side;
    least = λ other is. elim (cases_lt (weight net.imports (leaves far)) (weight net.imports (leaves other))) [
      | inl more ↦ let le = least.least far (record { is_side = far_side; removable = far_free }) in omega arith
      | inr less ↦ least.least other (record { is_side = is; removable = light_free (leaves other) (let light = far_light in omega arith) })
    ];
  }

  pub near_is : (m : ℕ) → InSourceSide net a b m → InSourceSideWithPins net a b m
  near_is m near side least = near side (least_of side least)

  pub near_of : (m : ℕ) → InSourceSideWithPins net a b m → InSourceSide net a b m
  near_of m near side least = near side (least_is side least)

  leaves_is : (i : Priced) → LeavesSourceSide net a b i → LeavesSourceSideWithPins net a b i
  leaves_is i out = (near_is i.from out.0, λ near. out.1 (near_of i.to near))

  leaves_of : (i : Priced) → LeavesSourceSideWithPins net a b i → LeavesSourceSide net a b i
  leaves_of i out = (near_of i.from out.0, λ near. out.1 (near_is i.to near))

  pub printed_is : (x : Priced → Bool) → AreReported net a b x → AreReportedWithPins net a b x
  printed_is x printed i c = (
    λ has. let one = (printed i c).0 has in
        (leaves_is i one.0, (one.1.0, widened net.imports net.imports _ _ (λ j d stays. (d, λ out. stays (leaves_of j out))) i.to one.1.0 b one.1.1)),
    λ one. (printed i c).1 (leaves_of i one.0, (one.1.0, widened net.imports net.imports _ _ (λ j d stays. (d, λ out. stays (leaves_is j out))) i.to one.1.0 b one.1.1)),
  )

  pub printed_of : (x : Priced → Bool) → AreReportedWithPins net a b x → AreReported net a b x
  printed_of x printed i c = (
    λ has. let one = (printed i c).0 has in
        (leaves_of i one.0, (one.1.0, widened net.imports net.imports _ _ (λ j d stays. (d, λ out. stays (leaves_is j out))) i.to one.1.0 b one.1.1)),
    λ one. (printed i c).1 (leaves_is i one.0, (one.1.0, widened net.imports net.imports _ _ (λ j d stays. (d, λ out. stays (leaves_of j out))) i.to one.1.0 b one.1.1)),
  )

  cheapest_free : (x : Priced → Bool) → IsCheapest net a b x → IsRemovable net x
  cheapest_free x cheapest = light_free x (cheapest.least (is_free net) (free_cut net a b none))

  pub cheapest_is : (x : Priced → Bool) → IsCheapest net a b x → IsCheapestWithPins net a b x
  cheapest_is x cheapest = record {
    cut = record { removable = cheapest_free x cheapest; cut = cheapest.cut };
    least = λ y cut. cheapest.least y cut.cut;
  }

  pub answer_is : (claim : AnswerClaim) → IsAnswer net a b claim → IsCheapestAnswer net a b claim → IsAnswerWithPins net a b claim
  answer_is (CutOf total printed flow) answer cheapest = record {
    free = none;
    right = record {
      printed_in_order = answer.right.printed_in_order;
      flow_in_order = answer.right.flow_in_order;
      cut = answer.right.cut;
      weights = record { removable = cheapest_free (removed_by printed) cheapest; each = answer.right.weights.each; sum = answer.right.weights.sum };
      is_flow = record { within = λ i c free. answer.right.is_flow.within i c; kept = answer.right.is_flow.kept; at_start = answer.right.is_flow.at_start };
    };
    are_printed = printed_is (removed_by printed) answer.are_printed;
    flow_above_zero = answer.flow_above_zero;
  }
  answer_is (BlockedBy chain) answer cheapest = absurd answer

  pub cheapest_said : (claim : AnswerClaim) → IsAnswer net a b claim → IsCheapestAnswer net a b claim → IsCheapestAnswerWithPins net a b claim
  cheapest_said (CutOf total printed flow) answer cheapest = cheapest_is (removed_by printed) cheapest
  cheapest_said (BlockedBy chain) answer cheapest = absurd answer

leaving_within : (t p : Bool) (flow amount : ℕ) → (t ≡ true → p ≡ false) → (p ≡ false → flow ≤ amount) → cond t flow 0 ≤ cond t amount 0
leaving_within false p flow amount free within = omega arith
leaving_within true p flow amount free within = within (free refl)

-- no flow has more value than the imports that leave a side weigh, where none of them is pinned
value_within : (net : Network) (a b : ℕ) (flow : Priced → ℕ) (value : ℕ) (side : ℕ → Bool) →
    AreBetween net.imports (length net.names) → a < length net.names → IsFlowWithPins net a b flow value → IsSideWithPins net a b side → value ≤ weight net.imports (leaves side)
value_within net a b flow value side between a_in is_flow is_side =
    let e = across_kept net a b flow value side between a_in (record { kept = is_flow.kept; at_start = is_flow.at_start }) is_side.is_side in
    let le : sum_by (λ i. cond (leaves side i) (flow i) 0) net.imports ≤ weight net.imports (leaves side) =
    sum_by-mono _ _ net.imports (λ i c. leaving_within (leaves side i) (is_pinned net i) (flow i) i.amount (is_side.removable i c) (is_flow.within i c)) in
    omega arith

pub weak_duality : (net : Network) (a b : ℕ) (x : Priced → Bool) (flow : Priced → ℕ) →
    AreBetween net.imports (length net.names) → a < length net.names →
    IsCutWithPins net a b x → IsFlowWithPins net a b flow (weight net.imports x) → IsCheapestWithPins net a b x
weak_duality net a b x flow between a_in cut is_flow = record {
  cut = cut;
  least = λ y y_cut.
      let side = no_chain_to net.imports y b in
      let within = value_within net a b flow (weight net.imports x) side between a_in is_flow
      (record { is_side = side_of_cut net a b y y_cut.cut; removable = λ i c out. y_cut.removable i c (leaves_in_cut net.imports b y i c out) }) in
      let le = weight-mono net.imports (leaves side) y (leaves_in_cut net.imports b y) in
      omega arith;
}

-- ---- without pinned imports

nothing_pinned : (net : Network) → net.pins ≡ [] → (i : Priced) → is_pinned net i ≡ false
nothing_pinned net e i = rw e refl

all_removable : (net : Network) → net.pins ≡ [] → (x : Priced → Bool) → IsRemovable net x
all_removable net e x i c has = nothing_pinned net e i

pub no_pins : (net : Network) → net.pins ≡ [] → ArePins net
no_pins net e = record {
  in_order = record {
    known = (rw e (λ k d lt. absurd (omega arith)));
    ascending = (rw e (λ j k d lt l. absurd (omega arith)));
  };
  heavy = λ i c t. absurd (both_ways (is_pinned net i) (nothing_pinned net e i) t);
  light = λ lt. let none : length net.pins ≡ 0 = ap length e in absurd (omega arith);
}

no_pin_chain : (net : Network) (a b : ℕ) → net.pins ≡ [] → a ≢ b → PinChain net a b → ⊥
no_pin_chain net a b e apart ([], same) = apart same
no_pin_chain net a b e apart (m ∷ more, ((i, c, ef, et, t), rest)) = both_ways (is_pinned net i) (nothing_pinned net e i) t

module _ (net : Network) (a b : ℕ) (e : net.pins ≡ []) where
  pub same_cut : (x : Priced → Bool) → IsCutWithPins net a b x ↔ IsCut net a b x
  same_cut x = (λ cut. cut.cut, λ cut. record { removable = all_removable net e x; cut = cut })

  pub same_cheapest : (x : Priced → Bool) → IsCheapestWithPins net a b x ↔ IsCheapest net a b x
  same_cheapest x = (
    λ cheapest. record { cut = cheapest.cut.cut; least = λ y cut. cheapest.least y (record { removable = all_removable net e y; cut = cut }) },
    λ cheapest. record { cut = record { removable = all_removable net e x; cut = cheapest.cut }; least = λ y cut. cheapest.least y cut.cut },
  )

  pub same_flow : (flow : Priced → ℕ) (value : ℕ) → IsFlowWithPins net a b flow value ↔ IsFlow net a b flow value
  same_flow flow value = (
    λ is. record { within = λ i c. is.within i c (nothing_pinned net e i); kept = is.kept; at_start = is.at_start },
    λ is. record { within = λ i c free. is.within i c; kept = is.kept; at_start = is.at_start },
  )

  pub same_near : a ≢ b → (m : ℕ) → InSourceSideWithPins net a b m ↔ InSourceSide net a b m
  same_near apart m = (near_of net a b (no_pins net e) (no_pin_chain net a b e apart) m, near_is net a b (no_pins net e) (no_pin_chain net a b e apart) m)

  pub same_printed : a ≢ b → (x : Priced → Bool) → AreReportedWithPins net a b x ↔ AreReported net a b x
  same_printed apart x = (printed_of net a b (no_pins net e) (no_pin_chain net a b e apart) x, printed_is net a b (no_pins net e) (no_pin_chain net a b e apart) x)

pub needed_with_pins : (net : Network) (a b : ℕ) (x : Priced → Bool) → AreBetween net.imports (length net.names) → a < length net.names → ArePins net → (PinChain net a b → ⊥) →
    AreReportedWithPins net a b x → (i : Priced) → Contains net.imports i → x i ≡ true → Chain net.imports (Outside (without x i)) a b
needed_with_pins net a b x between a_in pins none printed = needed net a b x between a_in (printed_of net a b pins none x printed)
