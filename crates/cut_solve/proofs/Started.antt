-- The input of a preflow satisfies the requirements of `start_on`.
use Rattle.std.proofs.Common.{◌≡◌, ◌≢◌, ℕ, ◌≤◌, ◌<◌, false, List, [], ◌∷◌, length, get_or, map, refl, sym, ap, ◌∙◌, subst, arith, inl, inr}
use Rattle.std.proofs.lemmas.Bool.{both_ways, false_from_ne_true}
use Rattle.std.proofs.lemmas.List.{get_or_default, length-map}
use Rattle.std.proofs.Math.ListN.{get_or-map as get_or-map_all}
use Rattle.std.proofs.lemmas.List.Elements.{Contains-get_or}
use Rattle.digraph.specs.declared.edge.Edge.{Edge}
use Rattle.cut_net.specs.declared.priced.Priced.{Priced}
use Rattle.cut_net.specs.Network.{Network, missing_item}
use Rattle.cut_net.specs.Cuts.{have_equal_ends}
use Rattle.cut_net.specs.Lines.{edge_of}
use Rattle.cut_net.specs.WellFormed.{AreBetween, IsNetwork}
use Rattle.cut_net.proofs.Ends.{same_from, same_true}
use Rattle.cut_part.specs.Apart.{AreApart}
use Rattle.cut_part.specs.CapacityReduction.{ends_of, import_in}
use Rattle.cut_part.specs.Reversal.{reversed}
use Rattle.cut_part.proofs.Apart.{ascending_apart, turned_apart}
use Rattle.cut_part.proofs.CapacityReduction.{same_pair, still_between}
use Rattle.cut_part.proofs.Reversal.{between_turned}
use Rattle.cut_preflow.specs.Total.{total}
use Rattle.cut_preflow.specs.Kept.{IsFlowNetwork}
use Rattle.cut_preflow.specs.Trace.{IsWithinLimits}
use Rattle.cut_preflow.specs.Flows.{AreEnds, network_on}
use Rattle.cut_preflow.proofs.Networks.{between_limits}
use Rattle.cut_preflow.proofs.Totals.{total-le}
use Rattle.cut_solve.specs.Starts.{HasReducedWeights, IsReducedFrom, IsPreflowInput}

-- a property of both directions holds of the input
pub either_way : (net : Network) (a b : ℕ) (imports : List Priced) (source sink : ℕ) (start : IsPreflowInput net a b imports source sink) (P : List Priced → ℕ → ℕ → Type 0) →
    P start.reduced_imports a b → P (map reversed start.reduced_imports) b a → P imports source sink
either_way net a b imports source sink start P forth back = elim start.direction [
  | inl w ↦ subst (λ v. P v source sink) (sym w.0) (subst (λ m. P start.reduced_imports m sink) (sym w.1) (subst (P start.reduced_imports a) (sym w.2) forth))
  | inr w ↦ subst (λ v. P v source sink) (sym w.0) (subst (λ m. P (map reversed start.reduced_imports) m sink) (sym w.1) (subst (P (map reversed start.reduced_imports) b) (sym w.2) back))
]

same_length : (xs ys : List Priced) → ends_of xs ≡ ends_of ys → length xs ≡ length ys
same_length xs ys e = sym (length-map xs edge_of) ∙ ap length e ∙ length-map ys edge_of

-- imports with the ends of others are apart as these are
apart_by_ends : (xs ys : List Priced) → ends_of xs ≡ ends_of ys → AreApart ys → AreApart xs
apart_by_ends xs ys e are j k d less in_k =
    let size = same_length xs ys e in
    let first = same_pair xs ys j e in
    let second = same_pair xs ys k e in
    let here : have_equal_ends (import_in xs k) (import_in xs j) ≡ false = false_from_ne_true _ (λ t.
    let same = same_from (import_in xs k) (import_in xs j) t in
    let there = same_true (import_in ys k) (import_in ys j) (record {
      from = sym (ap (λ (p : Edge). p.from) second) ∙ same.from ∙ ap (λ (p : Edge). p.from) first;
      to = sym (ap (λ (p : Edge). p.to) second) ∙ same.to ∙ ap (λ (p : Edge). p.to) first;
    }) in
    both_ways _ (are j k missing_item less (omega arith)) there) in
    subst (λ v. have_equal_ends (get_or xs k d) v ≡ false) (get_or_default xs j missing_item d (omega arith))
    (subst (λ v. have_equal_ends v (import_in xs j) ≡ false) (get_or_default xs k missing_item d (omega arith)) here)

-- imports between the nodes, no two with the same ends
flow_network : (n : ℕ) (imports : List Priced) (a b : ℕ) → AreBetween imports n → AreApart imports → a < n → b < n → a ≢ b → IsFlowNetwork (network_on n imports a b)
flow_network n imports a b between are a_in b_in apart = record {
  from_low = λ k h. (between _ (Contains-get_or imports k missing_item h)).0;
  to_low = λ k h. (between _ (Contains-get_or imports k missing_item h)).1;
  source_low = a_in;
  sink_low = b_in;
  apart = apart;
  apart_ends = are;
}

pub narrow_between : (net : Network) (a b : ℕ) → IsNetwork net → (imports : List Priced) (source sink : ℕ) (start : IsPreflowInput net a b imports source sink) → AreBetween start.reduced_imports (length net.names)
narrow_between net a b is imports source sink start = still_between start.reduced_imports net.imports (length net.names) start.reduced_capacities.ends is.between

-- the ends of imports that were reversed
swapped : Edge → Edge
swapped e = record { from = e.to; to = e.from }

ends_turned : (xs : List Priced) → ends_of (map reversed xs) ≡ map swapped (ends_of xs)
unfolding swapped
ends_turned [] = refl
ends_turned (x ∷ xs) = ap (λ (es : List Edge). record { from = x.to; to = x.from } ∷ es) (ends_turned xs)

turned_ends : (xs ys : List Priced) → ends_of xs ≡ ends_of ys → ends_of (map reversed xs) ≡ ends_of (map reversed ys)
turned_ends xs ys e = ends_turned xs ∙ ap (map swapped) e ∙ sym (ends_turned ys)

pub turned_amount : (xs : List Priced) (k : ℕ) → (import_in (map reversed xs) k).amount ≡ (import_in xs k).amount
turned_amount xs k = ap (λ (i : Priced). i.amount) (get_or-map_all reversed xs k missing_item)

-- what a preflow starts on has no weight higher
pub start_below : (net : Network) (a b : ℕ) (imports : List Priced) (source sink : ℕ) → IsPreflowInput net a b imports source sink → HasReducedWeights net a b imports source sink
start_below net a b imports source sink start = elim start.direction [
  | inl w ↦ record {
    reduced = λ k. subst (λ v. (import_in v k).amount ≤ (import_in net.imports k).amount) (sym w.0) (start.reduced_capacities.reduced k);
    direction = inl (ap ends_of w.0 ∙ start.reduced_capacities.ends, w.1, w.2);
  }
  | inr w ↦ record {
    reduced = λ k. subst (λ v. (import_in v k).amount ≤ (import_in net.imports k).amount) (sym w.0)
        (subst (λ n. n ≤ (import_in net.imports k).amount) (sym (turned_amount start.reduced_imports k)) (start.reduced_capacities.reduced k));
    direction = inr (ap ends_of w.0 ∙ turned_ends start.reduced_imports net.imports start.reduced_capacities.ends, w.1, w.2);
  }
]

-- and stays so where weights are reduced
pub lowered_below : (net : Network) (a b : ℕ) (old new : List Priced) (source sink : ℕ) → HasReducedWeights net a b old source sink → IsReducedFrom old new → HasReducedWeights net a b new source sink
lowered_below net a b old new source sink below low = record {
  reduced = λ k. let one = low.reduced k in let two = below.reduced k in omega arith;
  direction = elim below.direction [ inl w ↦ inl (low.ends ∙ w.0, w.1, w.2) | inr w ↦ inr (low.ends ∙ w.0, w.1, w.2) ];
}

pub below_between : (net : Network) (a b : ℕ) → IsNetwork net → (imports : List Priced) (source sink : ℕ) → HasReducedWeights net a b imports source sink → AreBetween imports (length net.names)
below_between net a b is imports source sink below = elim below.direction [
  | inl w ↦ still_between imports net.imports (length net.names) w.0 is.between
  | inr w ↦ still_between imports (map reversed net.imports) (length net.names) w.0 (between_turned net.imports (length net.names) is.between)
]

module _ (net : Network) (a b : ℕ) (is : IsNetwork net) (ends : AreEnds net a b) (imports : List Priced) (source sink : ℕ) (below : HasReducedWeights net a b imports source sink) where
  pub below_is : IsFlowNetwork (network_on (length net.names) imports source sink)
  below_is =
      let n = length net.names in
      let reversed_imports = map reversed net.imports in
      let up = ascending_apart net.imports is.imports_ascend in
      let between = below_between net a b is imports source sink below in
      elim below.direction [
        | inl w ↦ subst (λ m. IsFlowNetwork (network_on n imports m sink)) (sym w.1) (subst (λ k. IsFlowNetwork (network_on n imports a k)) (sym w.2)
            (flow_network n imports a b between (apart_by_ends imports net.imports w.0 up) ends.from_in ends.to_in ends.apart))
        | inr w ↦ subst (λ m. IsFlowNetwork (network_on n imports m sink)) (sym w.1) (subst (λ k. IsFlowNetwork (network_on n imports b k)) (sym w.2)
            (flow_network n imports b a between (apart_by_ends imports reversed_imports w.0 (turned_apart net.imports up))
            ends.to_in ends.from_in (λ e. ends.apart (sym e))))
      ]

  pub below_size : length imports ≡ length net.imports
  below_size = elim below.direction [
    | inl w ↦ same_length imports net.imports w.0
    | inr w ↦ same_length imports (map reversed net.imports) w.0 ∙ length-map net.imports reversed
  ]

  pub below_limits : IsWithinLimits (network_on (length net.names) imports source sink)
  below_limits =
      let limits = between_limits net a b is in
      let size = below_size in
      let fewer = total-le (length net.imports) (λ k. (import_in imports k).amount) (λ k. (import_in net.imports k).amount) (λ k h. below.reduced k) in
      let here : total (length imports) (λ k. (import_in imports k).amount) ≡ total (length net.imports) (λ k. (import_in imports k).amount) =
      ap (λ n. total n (λ k. (import_in imports k).amount)) size in
      let most = limits.weights in
      let few = limits.few_imports in
      record {
        few_nodes = limits.few_nodes;
        few_imports = omega arith;
        weights = omega arith;
      }
