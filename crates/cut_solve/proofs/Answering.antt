-- From the last search to the answer.
use Rattle.std.proofs.Common.{◌≡◌, ℕ, ◌≤◌, ◌<◌, Bool, true, false, not, List, length, get_or, refl, sym, ap, ◌∙◌, subst, sum_by}
use Rattle.std.specs.Prelude.{All, Contains, IsTrue, filter, map, ◌↔◌}
use Rattle.std.proofs.lemmas.Bool.{both_ways, and_parts, and_from, not-true, not_from_false, false_from_ne_true, ltb-true}
use Rattle.std.proofs.lemmas.List.Elements.{Contains-get_or, filter_passes}
use Rattle.std.proofs.lemmas.List.Kept.{AllPairs-filter}
use Rattle.cut_net.specs.declared.priced.Priced.{Priced}
use Rattle.cut_net.specs.Network.{Network}
use Rattle.cut_net.specs.Cuts.{leaves, weight, IsSetOf, AreReported, Chain, IsCheapest, IsFlow, IsReported, LeavesSourceSide, InSourceSide, Outside, Reached}
use Rattle.cut_net.specs.Lines.{comes_before, flow_by, removed_by, AreImportsInOrder, IsAscending, IsCutAnswer, IsImport}
use Rattle.cut_net.specs.WellFormed.{AreBetween}
use Rattle.cut_net.proofs.Chains.{widened}
use Rattle.cut_net.proofs.Members.{from_filter, from_map, in_map}
use Rattle.cut_net.proofs.NearSide.{is_near, is_cheapest, weighs}
use Rattle.cut_part.specs.CapacityReduction.{IsUnreachable}
use Rattle.cut_part.proofs.Greatest.{end_unreached}
use Rattle.residual_graph.specs.declared.arc.Arc.{Arc}
use Rattle.residual_graph.specs.Flows.{IsBalanced}
use Rattle.residual_graph.specs.Graphs.{is_flagged, AreClosed, AreReached}
use Rattle.cut_solve.specs.MaximumFlow.{IsMaximumFlow}
use Rattle.cut_solve.specs.Lines.{has_flow, import_of_arc, is_reported_import, flow_line}
use Rattle.cut_solve.proofs.Flowing.{flow_on, imports_of, is_flow, lines_ascend, net_of, reached}
use Rattle.cut_solve.proofs.Listing.{each_kept, removed_is, weight_kept}

-- the imports that lead from flagged modules to far ones are those that the definition prints
module _ (net : Network) (a b : ℕ) (source_side sink_side : List Bool) (are : IsSetOf (is_flagged source_side) (InSourceSide net a b))
    (chains : (m : ℕ) → (is_flagged sink_side m ≡ true) ↔ Chain net.imports (Outside (leaves (is_flagged source_side))) m b) where
  leaves_near : (i : Priced) → leaves (is_flagged source_side) i ≡ true → LeavesSourceSide net a b i
  leaves_near i h =
      let parts = and_parts (is_flagged source_side i.from) (not (is_flagged source_side i.to)) h in
      ((are i.from).0 parts.0, λ n. both_ways (is_flagged source_side i.to) (not-true _ parts.1) ((are i.to).1 n))

  near_leaves : (i : Priced) → LeavesSourceSide net a b i → leaves (is_flagged source_side) i ≡ true
  near_leaves i out = and_from _ _ ((are i.from).1 out.0) (not_from_false _ (false_from_ne_true _ (λ u. out.1 ((are i.to).0 u))))

  pub are_printed : (i : Priced) → (is_reported_import source_side sink_side i ≡ true) ↔ IsReported net a b i
  are_printed i = (
    λ h.
        let parts = and_parts (leaves (is_flagged source_side) i) (is_flagged sink_side i.to) h in
        let chain = (chains i.to).0 parts.1 in (
          leaves_near i parts.0,
          (
            chain.0,
            widened net.imports net.imports (Outside (leaves (is_flagged source_side))) (λ j. LeavesSourceSide net a b j → ⊥)
                (λ j c stays. (c, λ out. both_ways (leaves (is_flagged source_side) j) stays (near_leaves j out))) i.to chain.0 b chain.1,
          ),
        ),
    λ p. and_from _ _ (near_leaves i p.0) ((chains i.to).1 (
      p.1.0,
      widened net.imports net.imports (λ j. LeavesSourceSide net a b j → ⊥) (Outside (leaves (is_flagged source_side)))
          (λ j c stays. (c, false_from_ne_true _ (λ u. stays (leaves_near j u)))) i.to p.1.0 b p.1.1,
    )),
  )

-- the reported imports of a maximum flow
module _ (net : Network) (a b : ℕ) (source_side sink_side : List Bool) (flow : List Priced) (up : IsAscending net.imports) (between : AreBetween net.imports (length net.names)) (a_in : a < length net.names)
    (greatest : IsMaximumFlow net a b source_side flow) (chains : (m : ℕ) → (is_flagged sink_side m ≡ true) ↔ Chain net.imports (Outside (leaves (is_flagged source_side))) m b) where
  near_is : IsSetOf (is_flagged source_side) (InSourceSide net a b)
  near_is = is_near net a b (flow_by flow) greatest.value between a_in greatest.is_flow (is_flagged source_side) greatest.reached greatest.end

  abbrev printed : List Priced
  printed = filter (is_reported_import source_side sink_side) net.imports

  removed_printed : AreReported net a b (removed_by printed)
  removed_printed i c =
      let same = removed_is (is_reported_import source_side sink_side) net.imports up i c in
      let p = are_printed net a b source_side sink_side near_is chains i in
      (λ h. p.0 (sym same ∙ h), λ q. same ∙ p.1 q)

  pub cheapest : IsCheapest net a b (removed_by printed)
  cheapest = is_cheapest net a b (flow_by flow) greatest.value between a_in greatest.is_flow (is_flagged source_side) greatest.reached greatest.end (removed_by printed) removed_printed

  total_is : sum_by (λ (i : Priced). i.amount) printed ≡ greatest.value
  total_is =
      let x_printed : AreReported net a b (is_reported_import source_side sink_side) = λ i c. are_printed net a b source_side sink_side near_is chains i in
      weight_kept (is_reported_import source_side sink_side) net.imports
      ∙ weighs net a b (flow_by flow) greatest.value between a_in greatest.is_flow (is_flagged source_side) greatest.reached greatest.end (is_reported_import source_side sink_side) x_printed

  removed_weighs : weight net.imports (removed_by printed) ≡ greatest.value
  removed_weighs = weighs net a b (flow_by flow) greatest.value between a_in greatest.is_flow (is_flagged source_side) greatest.reached greatest.end (removed_by printed) removed_printed

  pub answered : IsCutAnswer net a b printed (sum_by (λ (i : Priced). i.amount) printed) flow
  answered = record {
    right = record {
      printed_in_order = record {
        known = λ k d h.
            let i = get_or printed k d in
            (i, from_filter (is_reported_import source_side sink_side) net.imports i (Contains-get_or printed k d h), refl, refl, tt);
        ascending = AllPairs-filter (λ i j. IsTrue (comes_before i j)) (is_reported_import source_side sink_side) net.imports up;
      };
      flow_in_order = greatest.in_order;
      cut = cheapest.cut;
      weights = record {
        each = each_kept (is_reported_import source_side sink_side) net.imports up;
        sum = total_is ∙ sym removed_weighs;
      };
      is_flow = subst (IsFlow net a b (flow_by flow)) (sym total_is) greatest.is_flow;
    };
    are_printed = removed_printed;
    flow_above_zero = greatest.above_zero;
  }

-- lines with an amount, of imports of the network in order
pub kept_lines : (net : Network) (lines : List Priced) → IsAscending lines → ((line : Priced) → Contains lines line → IsImport net line) → AreImportsInOrder net (filter has_flow lines)
kept_lines net lines up known = record {
  known = λ k d h. known (get_or (filter has_flow lines) k d) (from_filter has_flow lines (get_or (filter has_flow lines) k d) (Contains-get_or (filter has_flow lines) k d h));
  ascending = AllPairs-filter (λ i j. IsTrue (comes_before i j)) has_flow lines up;
}

pub kept_above_zero : (lines : List Priced) → All (λ (line : Priced). 0 < line.amount) (filter has_flow lines)
kept_above_zero lines k d h = ltb-true 0 (get_or (filter has_flow lines) k d).amount (filter_passes has_flow lines k d h)

-- a flow of arcs whose residual arcs lead from the flagged nodes to no others
module _ (names : List (List ℕ)) (pins : List Priced) (arcs : List Arc) (a b value : ℕ) (up : IsAscending (imports_of arcs)) (a_in : a < length names)
    (carried : IsFlow (net_of names pins arcs) a b (flow_on arcs) value) (source_side : List Bool) (are : AreReached (record { nodes = length names; arcs = arcs }) a source_side)
    (shut : AreClosed arcs source_side) (ends : is_flagged source_side b ≡ false) where
  line_known : (line : Priced) → Contains (map flow_line arcs) line → IsImport (net_of names pins arcs) line
  line_known line c =
      let (r, in_arcs, e) = from_map flow_line arcs line c in
      (import_of_arc r, in_map import_of_arc arcs r in_arcs, ap (λ (v : Priced). v.from) e, ap (λ (v : Priced). v.to) e, tt)

  pub greatest_on : IsMaximumFlow (net_of names pins arcs) a b source_side (filter has_flow (map flow_line arcs))
  greatest_on = record {
    size = are.size;
    reached = reached names pins arcs up a source_side a_in are shut;
    end = ends;
    in_order = kept_lines (net_of names pins arcs) (map flow_line arcs) (lines_ascend arcs up) line_known;
    above_zero = kept_above_zero (map flow_line arcs);
    value = value;
    is_flow = carried;
  }

-- the same of a network whose imports are those of the arcs
pub greatest_for : (net : Network) (arcs : List Arc) (a b value : ℕ) → imports_of arcs ≡ net.imports → IsAscending net.imports → a < length net.names →
    All (λ r. r.flow ≤ r.capacity) arcs → IsBalanced arcs a b value → (source_side : List Bool) → AreReached (record { nodes = length net.names; arcs = arcs }) a source_side → AreClosed arcs source_side →
    is_flagged source_side b ≡ false → IsMaximumFlow net a b source_side (filter has_flow (map flow_line arcs))
greatest_for net arcs a b value same up a_in within balanced source_side are shut ends =
    let here = subst IsAscending (sym same) up in
    subst (λ v. IsMaximumFlow (record { names = net.names; imports = v; pins = net.pins }) a b source_side (filter has_flow (map flow_line arcs))) same
    (greatest_on net.names net.pins arcs a b value here a_in (is_flow net.names net.pins arcs here a b value within balanced) source_side are shut ends)

-- and of a flow over the imports
pub greatest_by : (net : Network) (arcs : List Arc) (a b value : ℕ) → imports_of arcs ≡ net.imports → IsAscending net.imports → a < length net.names →
    IsFlow net a b (flow_on arcs) value → (source_side : List Bool) → AreReached (record { nodes = length net.names; arcs = arcs }) a source_side → AreClosed arcs source_side →
    is_flagged source_side b ≡ false → IsMaximumFlow net a b source_side (filter has_flow (map flow_line arcs))
greatest_by net arcs a b value same up a_in is source_side are shut ends =
    let here = subst IsAscending (sym same) up in
    subst (λ v. IsMaximumFlow (record { names = net.names; imports = v; pins = net.pins }) a b source_side (filter has_flow (map flow_line arcs))) same
    (greatest_on net.names net.pins arcs a b value here a_in (subst (λ v. IsFlow (record { names = net.names; imports = v; pins = net.pins }) a b (flow_on arcs) value) (sym same) is) source_side are shut ends)

-- where the residual imports of the flow don't lead to the end, it isn't flagged
pub end_unmarked : (net : Network) (arcs : List Arc) (a b : ℕ) → imports_of arcs ≡ net.imports → IsAscending net.imports → a < length net.names →
    IsUnreachable net (flow_on arcs) a b → (source_side : List Bool) → AreReached (record { nodes = length net.names; arcs = arcs }) a source_side → AreClosed arcs source_side → is_flagged source_side b ≡ false
end_unmarked net arcs a b same up a_in barred source_side are shut =
    let here = subst IsAscending (sym same) up in
    end_unreached net a b (flow_on arcs) (is_flagged source_side) barred
    (subst (λ v. IsSetOf (is_flagged source_side) (Reached (record { names = net.names; imports = v; pins = net.pins }) (flow_on arcs) a)) same (reached net.names net.pins arcs here a source_side a_in are shut))
