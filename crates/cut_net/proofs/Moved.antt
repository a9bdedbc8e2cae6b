-- A network with other states of its imports satisfies the invariant of networks.
use Rattle.std.proofs.Common.{◌≡◌, ℕ, suc, ◌+◌, ◌*◌, ◌<◌, ◌≤◌, Bool, true, false, cond, List, [], ◌∷◌, ◌++◌, length, get_or, map, refl, sym, ap, ◌∙◌, subst, arith, sum_by, inl, inr}
use Rattle.std.specs.Prelude.{◌↔◌, Contains, IsTrue}
use Rattle.std.specs.List.{flat_map}
use Rattle.std.proofs.lemmas.Bool.{both_ways, cases_Bool, cases_lt, cases_order, false_from_ne_true}
use Rattle.std.proofs.lemmas.List.{get_or-map, get_or_default, length-map}
use Rattle.std.proofs.lemmas.List.Concat.{flat_map-cons}
use Rattle.std.proofs.lemmas.List.Elements.{Contains-get_or}
use Rattle.std.proofs.lemmas.List.Kept.{AllPairs-cons}
use Rattle.std.proofs.lemmas.List.Sums.{sum_by-cons}
use Rattle.digraph.proofs.Members.{from_map, in_map, no_member, one_member}
use Rattle.digraph.proofs.SameGraphs.{AreSame, acyclic_as}
use Rattle.cut_net.specs.declared.priced.Priced.{Priced}
use Rattle.cut_net.specs.declared.pin_state.PinState.{PinState}
use Rattle.cut_net.specs.declared.pin_state.PinState.TheVariants.{WithWeight, WithPin}
use Rattle.cut_net.specs.Lines.{IsAscending, comes_before}
use Rattle.cut_net.specs.Network.{Network, missing_item}
use Rattle.cut_net.specs.Pins.{ArePins, is_pinned, most_weight, unpinned_weight}
use Rattle.cut_net.specs.Prices.{import_with_state, pin_of_state, with_pin_states}
use Rattle.cut_net.specs.PriceReading.{weight_if_unpinned}
use Rattle.cut_net.specs.Cuts.{Any, Imports}
use Rattle.cut_net.specs.WellFormed.{AreBetween, IsNetwork, total_weight}
use Rattle.cut_net.proofs.Ends.{Before, Same, apart, before_from, before_same, before_true, same_from, same_sym, same_trans, same_true}
use Rattle.cut_net.proofs.FlatMaps.{from_flat_map, in_flat_map}
use Rattle.cut_net.proofs.ListSums.{sum_by-same}
use Rattle.cut_net.proofs.PinChains.{found_one, one_found}

-- ---- an import

-- in any state an import has its two modules
same_as : (i : Priced) (s : PinState) → Same (import_with_state i s) i
same_as i (WithWeight w) = record { from = refl; to = refl }
same_as i (WithPin w) = record { from = refl; to = refl }

-- it is pinned
abbrev stays : PinState → Bool
stays (WithWeight w) = false
stays (WithPin w) = true

pin_from : (i : Priced) (s : PinState) (p : Priced) → Contains (pin_of_state i s) p → Same i p × (stays s ≡ true)
pin_from i (WithWeight w) p h = no_member p h
pin_from i (WithPin w) p h = (subst (Same i) (one_member (record { from = i.from; to = i.to; amount = w }) p h) (record { from = refl; to = refl }), refl)

pin_there : (i : Priced) (s : PinState) → stays s ≡ true → (p : Priced) × Contains (pin_of_state i s) p
pin_there i (WithWeight w) e = absurd cc
pin_there i (WithPin w) e = (record { from = i.from; to = i.to; amount = w }, (0, omega arith, refl))

heavy_as : (i : Priced) (s : PinState) → stays s ≡ true → (import_with_state i s).amount ≡ most_weight + 1
heavy_as i (WithWeight w) e = absurd cc
heavy_as i (WithPin w) e = refl

light_as : (i : Priced) (s : PinState) → cond (stays s) 0 (import_with_state i s).amount ≡ weight_if_unpinned s
light_as i (WithWeight w) = refl
light_as i (WithPin w) = refl

within_as : (i : Priced) (s : PinState) → (import_with_state i s).amount ≤ weight_if_unpinned s + (most_weight + 1)
within_as i (WithWeight w) = omega arith
within_as i (WithPin w) = omega arith

-- ---- lists in order

-- no two imports in order have the same ends
one_import : (imports : List Priced) → IsAscending imports → (i j : Priced) → Contains imports i → Contains imports j → Same i j → i ≡ j
one_import imports up i j (k, lk, ik) (l, ll, jl) same =
    let at : get_or imports l i ≡ j = get_or_default imports l i j ll ∙ jl in
    elim (cases_order k l) [
      | inl e ↦ sym ik ∙ ap (λ (n : ℕ). get_or imports n i) e ∙ at
      | inr differs ↦ elim differs [
        | inl less ↦ let before = up k l i less ll in absurd (apart (before_from i j (rw (ik, at) at before)) same)
        | inr more ↦ let before = up l k i more lk in absurd (apart (before_from j i (rw (ik, at) at before)) (same_sym same))
      ]
    ]

later_up : (i : Priced) (imports : List Priced) → IsAscending (i ∷ imports) → IsAscending imports
later_up i imports up j k d lt l = up (suc j) (suc k) d (omega arith) (omega arith)

first_before : (i : Priced) (imports : List Priced) → IsAscending (i ∷ imports) → (j : Priced) → Contains imports j → Before i j
first_before i imports up j (k, lt, at) = before_from i j (subst (λ (x : Priced). comes_before i x ≡ true) at (up 0 (suc k) j (omega arith) (omega arith)))

pin_ahead : (i : Priced) (s : PinState) (pins : List Priced) → ((p : Priced) → Contains pins p → Before i p) → IsAscending pins → IsAscending (pin_of_state i s ++ pins)
pin_ahead i (WithWeight w) pins before up = up
pin_ahead i (WithPin w) pins before up =
    let pin : Priced = record { from = i.from; to = i.to; amount = w } in
    AllPairs-cons (λ (x : Priced) (y : Priced). comes_before x y ≡ true) pin pins
    (λ k d lt. let p = get_or pins k d in before_true pin p (before_same (before p (Contains-get_or pins k d lt)) (record { from = refl; to = refl }) (record { from = refl; to = refl }))) up

sum_by-moved : {X Y : Type 0} (f : Y → ℕ) (g : X → Y) (xs : List X) → sum_by f (map g xs) ≡ sum_by (λ x. f (g x)) xs
sum_by-moved f g [] = refl
sum_by-moved f g (x ∷ xs) =
    let rest = sum_by-moved f g xs in
    omega (arith, sum_by-cons f (g x) (map g xs), sum_by-cons (λ x. f (g x)) x xs)

-- each term at most a bound more
sum_by-within : {X : Type 0} (f g : X → ℕ) (b : ℕ) (xs : List X) → ((x : X) → f x ≤ g x + b) → sum_by f xs ≤ sum_by g xs + length xs * b
sum_by-within f g b [] within = omega arith
sum_by-within f g b (x ∷ xs) within =
    let rest = sum_by-within f g b xs within in
    let first = within x in
    omega (arith, sum_by-cons f x xs, sum_by-cons g x xs)

-- ---- a network

module _ (net : Network) (pin_state : Priced → PinState) where
  abbrev moved : Priced → Priced
  moved i = import_with_state i (pin_state i)

  abbrev pin : Priced → List Priced
  pin i = pin_of_state i (pin_state i)

  same_moved : (i : Priced) → Same (moved i) i
  same_moved i = same_as i (pin_state i)

  same_leads : AreSame (Imports net.imports Any) (Imports (map moved net.imports) Any)
  same_leads m n = (
    λ (i, has, from, to, any). let s = same_moved i in (moved i, in_map moved net.imports i has, s.from ∙ from, s.to ∙ to, tt),
    λ (j, has, from, to, any).
        let (i, present, e) = from_map moved net.imports j has in
        let s = same_moved i in
        (i, present, sym s.from ∙ ap (λ (x : Priced). x.from) e ∙ from, sym s.to ∙ ap (λ (x : Priced). x.to) e ∙ to, tt),
  )

  moved_between : AreBetween net.imports (length net.names) → AreBetween (map moved net.imports) (length net.names)
  moved_between between j has =
      let (i, present, e) = from_map moved net.imports j has in
      let s = same_moved i in
      let b = between i present in
      subst (λ (x : Priced). (x.from < length net.names) × (x.to < length net.names)) e (rw (s.from, s.to) b)

  moved_up : (imports : List Priced) → IsAscending imports → IsAscending (map moved imports)
  moved_up imports up j k d lt l =
      let long = length-map imports moved in
      let a = get_or imports j missing_item in
      let b = get_or imports k missing_item in
      let before = before_from a b (up j k missing_item lt (omega arith)) in
      rw (get_or-map moved imports j missing_item d (omega arith), get_or-map moved imports k missing_item d (omega arith))
      (before_true (moved a) (moved b) (before_same before (same_sym (same_moved a)) (same_sym (same_moved b))))

  pins_up : (imports : List Priced) → IsAscending imports → IsAscending (flat_map pin imports)
  pins_up [] up = λ j k d lt l. absurd (omega arith)
  pins_up (i ∷ imports) up =
      subst IsAscending (sym (flat_map-cons pin i imports)) (pin_ahead i (pin_state i) (flat_map pin imports)
      (λ p has.
      let (j, present, here) = from_flat_map pin imports p has in
      before_same (first_before i imports up j present) (record { from = refl; to = refl }) (pin_from j (pin_state j) p here).0)
      (pins_up imports (later_up i imports up)))

  abbrev changed : Network
  changed = with_pin_states net pin_state

  module _ (up : IsAscending net.imports) where
    -- an import is pinned if its state is
    pinned_is : (i : Priced) → Contains net.imports i → is_pinned changed (moved i) ≡ stays (pin_state i)
    pinned_is i has = elim (cases_Bool (stays (pin_state i))) [
      | inl t ↦
          let (p, here) = pin_there i (pin_state i) t in
          one_found (moved i) (flat_map pin net.imports) p (in_flat_map pin net.imports i p has here)
          (same_true (moved i) p (same_trans (same_moved i) (same_sym (pin_from i (pin_state i) p here).0))) ∙ sym t
      | inr f ↦ false_from_ne_true _ (λ t.
          let (p, present, ends) = found_one (moved i) (flat_map pin net.imports) t in
          let (j, known, here) = from_flat_map pin net.imports p present in
          let from = pin_from j (pin_state j) p here in
          let same : i ≡ j = one_import net.imports up i j has known (same_trans (same_trans (same_sym (same_moved i)) (same_sym (same_from (moved i) p ends))) from.0) in
          both_ways (stays (pin_state i)) f (subst (λ (x : Priced). stays (pin_state x) ≡ true) (sym same) from.1)) ∙ sym f
    ]

    pub unpinned_is : unpinned_weight changed ≡ sum_by (λ i. weight_if_unpinned (pin_state i)) net.imports
    unpinned_is =
        sum_by-moved (λ i. cond (is_pinned changed i) 0 i.amount) moved net.imports
        ∙ sum_by-same (λ i. cond (is_pinned changed (moved i)) 0 (moved i).amount) (λ i. weight_if_unpinned (pin_state i)) net.imports
        (λ i has. ap (λ (b : Bool). cond b 0 (moved i).amount) (pinned_is i has) ∙ light_as i (pin_state i))

  pub keeps_network : IsNetwork net → sum_by (λ i. weight_if_unpinned (pin_state i)) net.imports ≤ most_weight → IsNetwork changed
  keeps_network is light = record {
    named = is.named;
    names_ascend = is.names_ascend;
    few_names = is.few_names;
    between = moved_between is.between;
    imports_ascend = moved_up net.imports is.imports_ascend;
    few_imports = (let few = is.few_imports in let long = length-map net.imports moved in omega arith);
    fits = (
        let sum : total_weight changed ≡ sum_by (λ i. (moved i).amount) net.imports = sum_by-moved (λ i. i.amount) moved net.imports in
        let most = sum_by-within (λ i. (moved i).amount) (λ i. weight_if_unpinned (pin_state i)) (most_weight + 1) net.imports (λ i. within_as i (pin_state i)) in
        let few = is.few_imports in
        omega arith);
    acyclic = acyclic_as (Imports net.imports Any) (Imports (map moved net.imports) Any) same_leads is.acyclic;
  }

  pub keeps_pins : IsNetwork net → sum_by (λ i. weight_if_unpinned (pin_state i)) net.imports ≤ most_weight → ArePins changed
  keeps_pins is light = record {
    in_order = record {
      known = λ k d lt.
          let p = get_or (flat_map pin net.imports) k d in
          let (i, has, here) = from_flat_map pin net.imports p (Contains-get_or (flat_map pin net.imports) k d lt) in
          let s = same_moved i in
          let t = (pin_from i (pin_state i) p here).0 in
          (moved i, in_map moved net.imports i has, s.from ∙ t.from, s.to ∙ t.to, tt);
      ascending = pins_up net.imports is.imports_ascend;
    };
    heavy = λ j has pinned.
        let (i, present, e) = from_map moved net.imports j has in
        let t : stays (pin_state i) ≡ true = sym (pinned_is is.imports_ascend i present) ∙ subst (λ (x : Priced). is_pinned changed x ≡ true) (sym e) pinned in
        ap (λ (x : Priced). x.amount) (sym e) ∙ heavy_as i (pin_state i) t;
    light = λ some. let same = unpinned_is is.imports_ascend in omega arith;
  }

-- ---- its lists

pub counted : (pin_state : Priced → PinState) (imports : List Priced) (pin_states : List PinState) → pin_states ≡ map pin_state imports → sum_by weight_if_unpinned pin_states ≡ sum_by (λ i. weight_if_unpinned (pin_state i)) imports
counted pin_state imports pin_states same = ap (sum_by weight_if_unpinned) same ∙ sum_by-moved weight_if_unpinned pin_state imports

abbrev pub net_so : List (List ℕ) → List Priced → List Priced → Network
net_so names imports pins = record { names = names; imports = imports; pins = pins }

pub same_net : (net : Network) (pin_state : Priced → PinState) (pin_states : List PinState) (names : List (List ℕ)) (one two imports pins : List Priced) → pin_states ≡ map pin_state net.imports
    → names ≡ net.names → one ≡ net.imports → two ≡ net.imports
    → ((s : Priced → PinState) → pin_states ≡ map s one → imports ≡ map (λ i. import_with_state i (s i)) one) → ((s : Priced → PinState) → pin_states ≡ map s two → pins ≡ flat_map (λ i. pin_of_state i (s i)) two)
    → net_so names imports pins ≡ with_pin_states net pin_state
same_net net pin_state pin_states names one two imports pins same named first second are_imports are_pins =
    let i = are_imports pin_state (same ∙ ap (map pin_state) (sym first)) ∙ ap (map (λ x. import_with_state x (pin_state x))) first in
    let p = are_pins pin_state (same ∙ ap (map pin_state) (sym second)) ∙ ap (flat_map (λ x. pin_of_state x (pin_state x))) second in
    λ k. record { names = named k; imports = i k; pins = p k }

-- ---- the weights

module _ (net : Network) (pin_state : Priced → PinState) (is : IsNetwork net) (pin_states : List PinState) (same : pin_states ≡ map pin_state net.imports) (answer : Bool) (says : IsTrue answer ↔ (sum_by weight_if_unpinned pin_states ≤ most_weight)) where
  weighed : unpinned_weight (with_pin_states net pin_state) ≡ sum_by weight_if_unpinned pin_states
  weighed = unpinned_is net pin_state is.imports_ascend ∙ sym (counted pin_state net.imports pin_states same)

  pub over : answer ≡ false → most_weight < unpinned_weight (with_pin_states net pin_state)
  over not_light = let e = weighed in elim (cases_lt most_weight (unpinned_weight (with_pin_states net pin_state))) [
    | inl more ↦ more
    | inr less ↦ absurd (both_ways answer not_light (says.1 (omega arith)))
  ]

  pub light : answer ≡ true → (other : Network) → other ≡ with_pin_states net pin_state → unpinned_weight other ≤ most_weight
  light are_weights_in_limit other is_so = let e = weighed in let f = ap unpinned_weight is_so in let le = says.0 are_weights_in_limit in omega arith
