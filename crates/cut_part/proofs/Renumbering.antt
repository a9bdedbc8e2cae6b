-- A renumbered network has equal flows and equal reported imports.
use Rattle.std.proofs.Common.{◌≡◌, ◌⊎◌, ℕ, ◌≤◌, ◌<◌, ◌==◌, Bool, true, cond, List, [], ◌∷◌, length, map, refl, sym, ap, ap₂, ◌∙◌, subst, arith, inl, inr}
use Rattle.std.specs.Prelude.{Contains, ◌↔◌}
use Rattle.std.proofs.lemmas.Bool.{cases_eq, cases_lt, eq-eqb, ne_eqb}
use Rattle.digraph.proofs.Members.{in_map, from_map}
use Rattle.cut_net.specs.declared.priced.Priced.{Priced}
use Rattle.cut_net.specs.Network.{Network}
use Rattle.cut_net.specs.Cuts.{entering, leaving, leaves, weight, Chain, IsChain, IsFlow, IsMinimumSide, AreReported, IsReported, LeavesSourceSide, InSourceSide}
use Rattle.cut_net.proofs.ListSums.{sum_by-same}
use Rattle.cut_part.specs.CapacityReduction.{IsUnreachable, IsMaxFlow}
use Rattle.cut_part.specs.Renumbering.{IsRenumbered, flow_renumbered, renumbered}
use Rattle.cut_part.proofs.Sums.{sum_by-map}
use Rattle.cut_part.proofs.Subnetworks.{none_counts}

-- the whole network by the imports of the small one
abbrev lifted : Network → Network → (ℕ → ℕ) → Network
lifted whole small number = record { names = whole.names; imports = map (renumbered number) small.imports; pins = map (renumbered number) small.pins }

is_lifted : (whole small : Network) (number back : ℕ → ℕ) → IsRenumbered whole small number back → whole ≡ lifted whole small number
is_lifted whole small number back is = ap₂ (λ (imports pins : List Priced). record { names = whole.names; imports = imports; pins = pins }) is.imports is.pins

module _ (whole small : Network) (number back : ℕ → ℕ) (is : IsRenumbered whole small number back) where
  same_number : (x y : ℕ) → x < length small.names → y < length small.names → number x ≡ number y → x ≡ y
  same_number x y hx hy e = sym (is.back_is x hx) ∙ ap back e ∙ is.back_is y hy

  same_test : (x y : ℕ) → x < length small.names → y < length small.names → (number x == number y) ≡ (x == y)
  same_test x y hx hy =
      elim (cases_eq x y) [
        | inl e ↦ rw (eq-eqb x y e) (eq-eqb _ _ (ap number e))
        | inr ne ↦ rw (ne_eqb x y ne) (ne_eqb _ _ (λ e. ne (same_number x y hx hy e)))
      ]

  -- a number of the whole network is that of a module of the small one, or of none
  number_or_none : (m : ℕ) → ((back m < length small.names) × (number (back m) ≡ m)) ⊎ ((x : ℕ) → x < length small.names → number x ≡ m → ⊥)
  number_or_none m =
      elim (cases_lt (back m) (length small.names)) [
        | inr above ↦ inr (λ x h e. let b : back m ≡ x = ap back (sym e) ∙ is.back_is x h in absurd (omega arith))
        | inl below ↦ elim (cases_eq (number (back m)) m) [
          | inl e ↦ inl (below, e)
          | inr ne ↦ inr (λ x h e. ne (ap number (ap back (sym e) ∙ is.back_is x h) ∙ e))
        ]
      ]

  module _ (flow : Priced → ℕ) where
    into_number : (m : ℕ) → m < length small.names → entering (lifted whole small number).imports flow (number m) ≡ entering small.imports (flow_renumbered number flow) m
    into_number m h =
        sum_by-map (λ i. cond (i.to == number m) (flow i) 0) (renumbered number) small.imports
        ∙ sum_by-same _ _ small.imports (λ i c. ap (λ t. cond t (flow (renumbered number i)) 0) (same_test i.to m (is.between i c).1 h))

    out_number : (m : ℕ) → m < length small.names → leaving (lifted whole small number).imports flow (number m) ≡ leaving small.imports (flow_renumbered number flow) m
    out_number m h =
        sum_by-map (λ i. cond (i.from == number m) (flow i) 0) (renumbered number) small.imports
        ∙ sum_by-same _ _ small.imports (λ i c. ap (λ t. cond t (flow (renumbered number i)) 0) (same_test i.from m (is.between i c).0 h))

    none_at : (m : ℕ) → ((x : ℕ) → x < length small.names → number x ≡ m → ⊥) → entering (lifted whole small number).imports flow m ≡ leaving (lifted whole small number).imports flow m
    none_at m none =
        let into : entering (lifted whole small number).imports flow m ≡ 0 =
        sum_by-map (λ i. cond (i.to == m) (flow i) 0) (renumbered number) small.imports
        ∙ none_counts small.imports (flow_renumbered number flow) (λ i. number i.to == m) (λ i c. ne_eqb _ _ (none i.to (is.between i c).1)) in
        let out : leaving (lifted whole small number).imports flow m ≡ 0 =
        sum_by-map (λ i. cond (i.from == m) (flow i) 0) (renumbered number) small.imports
        ∙ none_counts small.imports (flow_renumbered number flow) (λ i. number i.from == m) (λ i c. ne_eqb _ _ (none i.from (is.between i c).0)) in
        into ∙ sym out

    module _ (a b : ℕ) (a_in : a < length small.names) (b_in : b < length small.names) (value : ℕ) where
      flow_up : IsFlow small a b (flow_renumbered number flow) value → IsFlow (lifted whole small number) (number a) (number b) flow value
      flow_up is_flow = record {
        within = λ i c. let was = from_map (renumbered number) small.imports i c in
            subst (λ (j : Priced). flow j ≤ j.amount) was.2 (is_flow.within was.0 was.1);
        kept = λ m not_a not_b. elim (number_or_none m) [
          | inr none ↦ none_at m none
          | inl (below, e) ↦ subst (λ k. entering (lifted whole small number).imports flow k ≡ leaving (lifted whole small number).imports flow k) e
              (into_number (back m) below ∙ is_flow.kept (back m) (λ f. not_a (sym e ∙ ap number f)) (λ f. not_b (sym e ∙ ap number f)) ∙ sym (out_number (back m) below))
        ];
        at_start = let s = is_flow.at_start in let i = into_number a a_in in let o = out_number a a_in in omega arith;
      }

      flow_down : IsFlow (lifted whole small number) (number a) (number b) flow value → IsFlow small a b (flow_renumbered number flow) value
      flow_down is_flow = record {
        within = λ i c. is_flow.within (renumbered number i) (in_map (renumbered number) small.imports i c);
        kept = λ m not_a not_b. elim (cases_lt m (length small.names)) [
          | inl h ↦ sym (into_number m h) ∙ is_flow.kept (number m) (λ e. not_a (same_number m a h a_in e)) (λ e. not_b (same_number m b h b_in e)) ∙ out_number m h
          | inr above ↦
              none_counts small.imports (flow_renumbered number flow) (λ i. i.to == m) (λ i c. let low = (is.between i c).1 in ne_eqb _ _ (λ e. absurd (omega arith)))
              ∙ sym (none_counts small.imports (flow_renumbered number flow) (λ i. i.from == m) (λ i c. let low = (is.between i c).0 in ne_eqb _ _ (λ e. absurd (omega arith))))
        ];
        at_start = let s = is_flow.at_start in let i = into_number a a_in in let o = out_number a a_in in omega arith;
      }

      barred_up : IsUnreachable small (flow_renumbered number flow) a b → IsUnreachable (lifted whole small number) flow (number a) (number b)
      barred_up (modules, barrier) = (
        λ m. modules (back m),
        record {
          start = ap modules (is.back_is a a_in) ∙ barrier.start;
          end = ap modules (is.back_is b b_in) ∙ barrier.end;
          closed = record {
            forward = λ i c. let was = from_map (renumbered number) small.imports i c in
                subst (λ (j : Priced). flow j < j.amount → modules (back j.from) ≡ true → modules (back j.to) ≡ true) was.2 (λ room t.
                ap modules (is.back_is was.0.to (is.between was.0 was.1).1)
                ∙ barrier.closed.forward was.0 was.1 room (sym (ap modules (is.back_is was.0.from (is.between was.0 was.1).0)) ∙ t));
            backward = λ i c. let was = from_map (renumbered number) small.imports i c in
                subst (λ (j : Priced). 0 < flow j → modules (back j.to) ≡ true → modules (back j.from) ≡ true) was.2 (λ some t.
                ap modules (is.back_is was.0.from (is.between was.0 was.1).0)
                ∙ barrier.closed.backward was.0 was.1 some (sym (ap modules (is.back_is was.0.to (is.between was.0 was.1).1)) ∙ t));
          };
        },
      )

  module _ (a b : ℕ) (a_in : a < length small.names) (b_in : b < length small.names) where
    weight_number : (side : ℕ → Bool) → weight (lifted whole small number).imports (leaves side) ≡ weight small.imports (leaves (λ m. side (number m)))
    weight_number side = sum_by-map (λ i. cond (leaves side i) i.amount 0) (renumbered number) small.imports

    weight_back : (side : ℕ → Bool) → weight (lifted whole small number).imports (leaves (λ m. side (back m))) ≡ weight small.imports (leaves side)
    weight_back side =
        weight_number (λ m. side (back m))
        ∙ sum_by-same _ _ small.imports (λ i c. rw (is.back_is i.from (is.between i c).0, is.back_is i.to (is.between i c).1) refl)

    least_up : (side : ℕ → Bool) → IsMinimumSide small a b side → IsMinimumSide (lifted whole small number) (number a) (number b) (λ m. side (back m))
    least_up side least = record {
      is_side = record { start = ap side (is.back_is a a_in) ∙ least.is_side.start; end = ap side (is.back_is b b_in) ∙ least.is_side.end };
      least = λ other is_side.
          let le = least.least (λ m. other (number m)) (record { start = is_side.start; end = is_side.end }) in
          let w = weight_back side in
          let v = weight_number other in
          omega arith;
    }

    least_down : (side : ℕ → Bool) → IsMinimumSide (lifted whole small number) (number a) (number b) side → IsMinimumSide small a b (λ m. side (number m))
    least_down side least = record {
      is_side = record { start = least.is_side.start; end = least.is_side.end };
      least = λ other is_side.
          let le = least.least (λ m. other (back m)) (record { start = ap other (is.back_is a a_in) ∙ is_side.start; end = ap other (is.back_is b b_in) ∙ is_side.end }) in
          let w = weight_back other in
          let v = weight_number side in
          omega arith;
    }

    near_up : (m : ℕ) → InSourceSide small a b m → InSourceSide (lifted whole small number) (number a) (number b) (number m)
    near_up m near side least = near (λ k. side (number k)) (least_down side least)

    near_down : (m : ℕ) → m < length small.names → InSourceSide (lifted whole small number) (number a) (number b) (number m) → InSourceSide small a b m
    near_down m h near side least = sym (ap side (is.back_is m h)) ∙ near (λ k. side (back k)) (least_up side least)

    leaves_up : (i : Priced) → Contains small.imports i → LeavesSourceSide small a b i → LeavesSourceSide (lifted whole small number) (number a) (number b) (renumbered number i)
    leaves_up i c l = (near_up i.from l.0, λ near. l.1 (near_down i.to (is.between i c).1 near))

    leaves_down : (i : Priced) → Contains small.imports i → LeavesSourceSide (lifted whole small number) (number a) (number b) (renumbered number i) → LeavesSourceSide small a b i
    leaves_down i c l = (near_down i.from (is.between i c).0 l.0, λ near. l.1 (near_up i.to near))

    chain_up : (m : ℕ) (more : List ℕ) → IsChain small.imports (λ j. LeavesSourceSide small a b j → ⊥) m more b →
        IsChain (lifted whole small number).imports (λ j. LeavesSourceSide (lifted whole small number) (number a) (number b) j → ⊥) (number m) (map number more) (number b)
    chain_up m [] e = ap number e
    chain_up m (n ∷ more) ((i, c, from, to, not_leaves), rest) =
        ((renumbered number i, in_map (renumbered number) small.imports i c, ap number from, ap number to, λ l. not_leaves (leaves_down i c l)), chain_up n more rest)

    chain_down : (m : ℕ) → m < length small.names → (more : List ℕ) → IsChain (lifted whole small number).imports (λ j. LeavesSourceSide (lifted whole small number) (number a) (number b) j → ⊥) (number m) more (number b) →
        Chain small.imports (λ j. LeavesSourceSide small a b j → ⊥) m b
    chain_down m h [] e = ([], same_number m b h b_in e)
    chain_down m h (n ∷ more) ((i, c, from, to, not_leaves), rest) =
        let was = from_map (renumbered number) small.imports i c in
        let from_is : number was.0.from ≡ number m = ap (λ (j : Priced). j.from) was.2 ∙ from in
        let to_is : number was.0.to ≡ n = ap (λ (j : Priced). j.to) was.2 ∙ to in
        let low = is.between was.0 was.1 in
        let rest_here : IsChain (lifted whole small number).imports (λ j. LeavesSourceSide (lifted whole small number) (number a) (number b) j → ⊥) (number was.0.to) more (number b) =
        subst (λ k. IsChain (lifted whole small number).imports (λ j. LeavesSourceSide (lifted whole small number) (number a) (number b) j → ⊥) k more (number b)) (sym to_is) rest in
        let after = chain_down was.0.to low.1 more rest_here in
        let not_here : LeavesSourceSide small a b was.0 → ⊥ = λ l. not_leaves (subst (λ (j : Priced). LeavesSourceSide (lifted whole small number) (number a) (number b) j) was.2 (leaves_up was.0 was.1 l)) in
        (was.0.to ∷ after.0, ((was.0, was.1, same_number was.0.from m low.0 h from_is, refl, not_here), after.1))

    printed_up : (i : Priced) → Contains small.imports i → IsReported small a b i → IsReported (lifted whole small number) (number a) (number b) (renumbered number i)
    printed_up i c p = (leaves_up i c p.0, (map number p.1.0, chain_up i.to p.1.0 p.1.1))

    printed_down : (i : Priced) → Contains small.imports i → IsReported (lifted whole small number) (number a) (number b) (renumbered number i) → IsReported small a b i
    printed_down i c p = (leaves_down i c p.0, chain_down i.to (is.between i c).1 p.1.0 p.1.1)

    pub printed_renumbered : (x : Priced → Bool) → AreReported small a b x → AreReported (lifted whole small number) (number a) (number b) (λ i. x (renumbered back i))
    printed_renumbered x printed i c =
        let was = from_map (renumbered number) small.imports i c in
        subst (λ (j : Priced). (x (renumbered back j) ≡ true) ↔ IsReported (lifted whole small number) (number a) (number b) j) was.2
        (let low = is.between was.0 was.1 in
        let same : renumbered back (renumbered number was.0) ≡ was.0 = rw (is.back_is was.0.from low.0, is.back_is was.0.to low.1) refl in (
          λ t. printed_up was.0 was.1 ((printed was.0 was.1).0 (sym (ap x same) ∙ t)),
          λ p. ap x same ∙ (printed was.0 was.1).1 (printed_down was.0 was.1 p),
        ))

-- the same of the whole network
module _ (whole small : Network) (number back : ℕ → ℕ) (is : IsRenumbered whole small number back) (a b : ℕ) (a_in : a < length small.names) (b_in : b < length small.names) where
  pub flow_up_is : (flow : Priced → ℕ) (value : ℕ) → IsFlow small a b (flow_renumbered number flow) value → IsFlow whole (number a) (number b) flow value
  flow_up_is flow value is_flow = subst (λ (n : Network). IsFlow n (number a) (number b) flow value) (sym (is_lifted whole small number back is)) (flow_up whole small number back is flow a b a_in b_in value is_flow)

  pub flow_down_is : (flow : Priced → ℕ) (value : ℕ) → IsFlow whole (number a) (number b) flow value → IsFlow small a b (flow_renumbered number flow) value
  flow_down_is flow value is_flow = flow_down whole small number back is flow a b a_in b_in value (subst (λ (n : Network). IsFlow n (number a) (number b) flow value) (is_lifted whole small number back is) is_flow)

  pub greatest_up_is : (flow : Priced → ℕ) (value : ℕ) → IsMaxFlow small a b (flow_renumbered number flow) value → IsMaxFlow whole (number a) (number b) flow value
  greatest_up_is flow value greatest = record {
    is_flow = flow_up_is flow value greatest.is_flow;
    barred = subst (λ (n : Network). IsUnreachable n flow (number a) (number b)) (sym (is_lifted whole small number back is)) (barred_up whole small number back is flow a b a_in b_in value greatest.barred);
  }

  pub printed_up_is : (x : Priced → Bool) → AreReported small a b x → AreReported whole (number a) (number b) (λ i. x (renumbered back i))
  printed_up_is x printed = subst (λ (n : Network). AreReported n (number a) (number b) (λ i. x (renumbered back i))) (sym (is_lifted whole small number back is)) (printed_renumbered whole small number back is a b a_in b_in x printed)
