-- The flow of a completed preflow is a maximum flow of the given network.
use Rattle.std.proofs.Common.{◌≡◌, ℕ, zero, suc, ◌+◌, ◌≤◌, ◌<◌, ◌==◌, if◌then◌else◌, Bool, false, inl, inr, List, [], ◌∷◌, ◌++◌, length, get_or, map, take, refl, sym, ap, ◌∙◌, subst, arith}
use Rattle.std.specs.Prelude.{All, Contains, filter}
use Rattle.std.proofs.lemmas.List.{get_or-map, length-map, take_all}
use Rattle.std.proofs.Math.Seq.{take-suc}
use Rattle.digraph.specs.declared.edge.Edge.{Edge}
use Rattle.cut_net.specs.declared.priced.Priced.{Priced}
use Rattle.cut_net.specs.Network.{Network, missing_item}
use Rattle.cut_net.specs.Cuts.{IsClosed, IsFlow}
use Rattle.cut_net.specs.Lines.{flow_by, IsAscending}
use Rattle.cut_net.specs.WellFormed.{IsNetwork}
use Rattle.cut_net.proofs.ListSums.{sum_by-same}
use Rattle.cut_part.specs.Apart.{flow_lines}
use Rattle.cut_part.specs.CapacityReduction.{ends_of, import_in, IsUnreachable, DependsOnEndsOnly, IsMaxFlow}
use Rattle.cut_part.specs.Reversal.{reversed_flow, reversed, reversed_net}
use Rattle.cut_part.proofs.Apart.{ascending_apart, flow_by_number}
use Rattle.cut_part.proofs.CapacityReduction.{at_numbers, by_lines, greatest_back, renumbering, same_pair}
use Rattle.cut_part.proofs.Sums.{same_entering, same_leaving}
use Rattle.cut_part.proofs.Reversal.{flow_round_back, greatest_round_back, lines_turned}
use Rattle.cut_preflow.specs.Preflow.{State}
use Rattle.cut_preflow.specs.Flows.{AreEnds, HasFlow, IsSinkUnreachable, network_on, value_of}
use Rattle.residual_graph.specs.declared.arc.Arc.{Arc}
use Rattle.residual_graph.specs.Graphs.{is_flagged, no_arc, AreClosed, AreReached}
use Rattle.cut_solve.specs.MaximumFlow.{IsMaximumFlow}
use Rattle.cut_solve.specs.Lines.{has_flow, flow_line, import_of_arc}
use Rattle.cut_solve.specs.Settling.{arcs_with_flow}
use Rattle.cut_solve.specs.Starts.{with_imports, HasReducedWeights, IsPreflowInput}
use Rattle.cut_solve.proofs.Answering.{end_unmarked, greatest_by}
use Rattle.cut_solve.proofs.Flowing.{flow_is, flow_on, imports_of}
use Rattle.cut_solve.proofs.Started.{below_size, either_way, narrow_between, turned_amount}

-- a flow by another function that is the same on each import
module _ (net : Network) (a b : ℕ) (f g : Priced → ℕ) (same : (i : Priced) → Contains net.imports i → f i ≡ g i) where
  pub same_flow : (value : ℕ) → IsFlow net a b f value → IsFlow net a b g value
  same_flow value is =
      let into = λ (m : ℕ). sum_by-same (λ (i : Priced). if i.to == m then f i else 0) (λ i. if i.to == m then g i else 0) net.imports (λ i c. ap (λ x. if i.to == m then x else 0) (same i c)) in
      let out = λ (m : ℕ). sum_by-same (λ (i : Priced). if i.from == m then f i else 0) (λ i. if i.from == m then g i else 0) net.imports (λ i c. ap (λ x. if i.from == m then x else 0) (same i c)) in
      record {
        within = λ i c. subst (λ x. x ≤ i.amount) (same i c) (is.within i c);
        kept = λ m not_a not_b. sym (into m) ∙ is.kept m not_a not_b ∙ out m;
        at_start = let i = into a in let o = out a in let s = is.at_start in omega arith;
      }

  pub same_closed : (modules : ℕ → Bool) → IsClosed net f modules → IsClosed net g modules
  same_closed modules closed = record {
    forward = λ i c room. closed.forward i c (subst (λ x. x < i.amount) (sym (same i c)) room);
    backward = λ i c some. closed.backward i c (subst (λ x. 0 < x) (sym (same i c)) some);
  }

-- the imports as arcs with this flow
pub carrying_imports : (imports : List Priced) (flow : List ℕ) → length flow ≡ length imports → imports_of (arcs_with_flow imports flow) ≡ imports
carrying_imports [] flow same = refl
carrying_imports (i ∷ more) [] same = absurd (omega arith)
carrying_imports (i ∷ more) (f ∷ flow) same = ap (λ v. i ∷ v) (carrying_imports more flow (omega arith))

carrying_at : (imports : List Priced) (flow : List ℕ) → length flow ≡ length imports → (k : ℕ) → k < length imports → (get_or (arcs_with_flow imports flow) k no_arc).flow ≡ get_or flow k 0
carrying_at [] flow same k h = absurd (omega arith)
carrying_at (i ∷ more) [] same k h = absurd (omega arith)
carrying_at (i ∷ more) (f ∷ flow) same zero h = refl
carrying_at (i ∷ more) (f ∷ flow) same (suc k) h = carrying_at more flow (omega arith) k (omega arith)

pub carrying_within : (imports : List Priced) (flow : List ℕ) → length flow ≡ length imports → ((k : ℕ) → k < length imports → get_or flow k 0 ≤ (import_in imports k).amount) →
    All (λ (r : Arc). r.flow ≤ r.capacity) (arcs_with_flow imports flow)
carrying_within [] flow same fits k d h = absurd (omega arith)
carrying_within (i ∷ more) [] same fits k d h = absurd (omega arith)
carrying_within (i ∷ more) (f ∷ flow) same fits zero d h = fits 0 (omega arith)
carrying_within (i ∷ more) (f ∷ flow) same fits (suc k) d h = carrying_within more flow (omega arith) (λ j in_j. fits (suc j) (omega arith)) k d (omega arith)

pub carrying_between : (imports : List Priced) (flow : List ℕ) (n : ℕ) → length flow ≡ length imports → ((k : ℕ) → k < length imports → ((import_in imports k).from < n) × ((import_in imports k).to < n)) →
    All (λ (r : Arc). (r.from < n) × (r.to < n)) (arcs_with_flow imports flow)
carrying_between [] flow n same between k d h = absurd (omega arith)
carrying_between (i ∷ more) [] n same between k d h = absurd (omega arith)
carrying_between (i ∷ more) (f ∷ flow) n same between zero d h = between 0 (omega arith)
carrying_between (i ∷ more) (f ∷ flow) n same between (suc k) d h = carrying_between more flow n (omega arith) (λ j in_j. between (suc j) (omega arith)) k d (omega arith)

-- the arc of an import with this flow
abbrev pub arc_with : Priced → ℕ → Arc
arc_with i f = record { from = i.from; to = i.to; capacity = i.amount; flow = f }

carrying_is : (imports : List Priced) (flow : List ℕ) → length flow ≡ length imports → (k : ℕ) (d : Arc) → k < length imports → get_or (arcs_with_flow imports flow) k d ≡ arc_with (import_in imports k) (get_or flow k 0)
carrying_is [] flow same k d h = absurd (omega arith)
carrying_is (i ∷ more) [] same k d h = absurd (omega arith)
carrying_is (i ∷ more) (f ∷ flow) same zero d h = refl
carrying_is (i ∷ more) (f ∷ flow) same (suc k) d h = carrying_is more flow (omega arith) k d (omega arith)

carrying_size : (imports : List Priced) (flow : List ℕ) → length flow ≡ length imports → length (arcs_with_flow imports flow) ≡ length imports
carrying_size imports flow same = sym (length-map (arcs_with_flow imports flow) import_of_arc) ∙ ap length (carrying_imports imports flow same)

-- one more import inspected
pub carrying_more : (imports : List Priced) (flow : List ℕ) (k f : ℕ) → length flow ≡ length imports → k < length imports → f ≡ get_or flow k 0 →
    take (k + 1) (arcs_with_flow imports flow) ≡ take k (arcs_with_flow imports flow) ++ arc_with (import_in imports k) f ∷ []
carrying_more imports flow k f same h is =
    let size = carrying_size imports flow same in
    let next : suc k ≡ k + 1 = omega arith in
    subst (λ n. take n (arcs_with_flow imports flow) ≡ take k (arcs_with_flow imports flow) ++ arc_with (import_in imports k) f ∷ []) next
    (take-suc (arcs_with_flow imports flow) k no_arc (omega arith) ∙ ap (λ x. take k (arcs_with_flow imports flow) ++ x ∷ []) (carrying_is imports flow same k no_arc h ∙ ap (arc_with (import_in imports k)) (sym is)))

pub carrying_all : (imports : List Priced) (flow : List ℕ) (k : ℕ) → length flow ≡ length imports → length imports ≤ k → take k (arcs_with_flow imports flow) ≡ arcs_with_flow imports flow
carrying_all imports flow k same h = let size = carrying_size imports flow same in take_all k (arcs_with_flow imports flow) (omega arith)

-- lines are those of imports with the same ends
abbrev head_or : Edge → List Edge → Edge
head_or d [] = d
head_or d (p ∷ ps) = p

abbrev but_first : List Edge → List Edge
but_first [] = []
but_first (p ∷ ps) = ps

lines_by_ends : (xs ys : List Priced) (flow : List ℕ) → ends_of xs ≡ ends_of ys → length xs ≡ length ys → flow_lines xs flow ≡ flow_lines ys flow
lines_by_ends [] [] flow e same = refl
lines_by_ends [] (y ∷ ys) flow e same = absurd (omega arith)
lines_by_ends (x ∷ xs) [] flow e same = absurd (omega arith)
lines_by_ends (x ∷ xs) (y ∷ ys) [] e same = refl
lines_by_ends (x ∷ xs) (y ∷ ys) (f ∷ flow) e same =
    let pair = ap (head_or (record { from = x.from; to = x.to })) e in
    let from : x.from ≡ y.from = ap (λ (p : Edge). p.from) pair in
    let to : x.to ≡ y.to = ap (λ (p : Edge). p.to) pair in
    let rest = lines_by_ends xs ys flow (ap but_first e) (omega arith) in
    λ i. record { from = from i; to = to i; amount = f } ∷ rest i

-- and of imports that were reversed they are reversed
turned_lines : (imports : List Priced) (flow : List ℕ) → flow_lines (map reversed imports) flow ≡ map reversed (flow_lines imports flow)
turned_lines [] flow = refl
turned_lines (i ∷ more) [] = refl
turned_lines (i ∷ more) (f ∷ flow) = ap (λ v. reversed (record { from = i.from; to = i.to; amount = f }) ∷ v) (turned_lines more flow)

module _ (net : Network) (a b : ℕ) (is : IsNetwork net) (ends : AreEnds net a b) (imports : List Priced) (source sink : ℕ) (start : IsPreflowInput net a b imports source sink) (s : State) where
  abbrev reduced_imports : List Priced
  reduced_imports = start.reduced_imports

  abbrev on_narrow : Priced → ℕ
  on_narrow = flow_by (flow_lines reduced_imports s.flow)

  -- a maximum flow of the narrowed network
  narrow_greatest : (value : ℕ) → IsMaxFlow (with_imports net reduced_imports) a b on_narrow value → IsMaxFlow net a b (flow_by (flow_lines net.imports s.flow)) value
  narrow_greatest value greatest =
      let size : length reduced_imports ≡ length net.imports = sym (length-map reduced_imports _) ∙ ap length start.reduced_capacities.ends ∙ length-map net.imports _ in
      subst (λ lines. IsMaxFlow net a b (flow_by lines) value) (lines_by_ends reduced_imports net.imports s.flow start.reduced_capacities.ends size)
      (greatest_back net (with_imports net reduced_imports) a b start.reduced_capacities on_narrow value (by_lines (flow_lines reduced_imports s.flow)) greatest)

  -- the same of it reversed
  turned_greatest : (value : ℕ) → IsMaxFlow (reversed_net (with_imports net reduced_imports)) b a (flow_by (flow_lines (map reversed reduced_imports) s.flow)) value →
      IsMaxFlow net a b (flow_by (flow_lines net.imports s.flow)) value
  turned_greatest value greatest =
      let flows : flow_by (flow_lines (map reversed reduced_imports) s.flow) ≡ reversed_flow on_narrow =
      (λ i v. ap (λ lines. flow_by lines v) (turned_lines reduced_imports s.flow) i) ∙ (λ i v. lines_turned (flow_lines reduced_imports s.flow) v i) in
      narrow_greatest value (greatest_round_back (with_imports net reduced_imports) a b on_narrow value (narrow_between net a b is imports source sink start) ends.to_in ends.apart
      (subst (λ g. IsMaxFlow (reversed_net (with_imports net reduced_imports)) b a g value) flows greatest))

  -- a flow of what the preflow started on, whose residual imports don't lead to the sink
  abbrev Settles : List Priced → ℕ → ℕ → Type 0
  Settles v m k = HasFlow (network_on (length net.names) v m k) s → IsSinkUnreachable (network_on (length net.names) v m k) s →
      (value : ℕ) × IsMaxFlow net a b (flow_by (flow_lines net.imports s.flow)) value

  pub settled_flow : Settles imports source sink
  settled_flow = either_way net a b imports source sink start Settles
      (λ has shut. (_, narrow_greatest _ (record { is_flow = has (with_imports net reduced_imports) refl; barred = shut (with_imports net reduced_imports) refl })))
      (λ has shut. (_, turned_greatest _ (record { is_flow = has (reversed_net (with_imports net reduced_imports)) refl; barred = shut (reversed_net (with_imports net reduced_imports)) refl })))

-- a flow of a network with lower weights is one of the network
module _ (old new : Network) (a b : ℕ) (ends : ends_of new.imports ≡ ends_of old.imports) (reduced : (k : ℕ) → (import_in new.imports k).amount ≤ (import_in old.imports k).amount) where
  flow_lowered : (flow : Priced → ℕ) (value : ℕ) → DependsOnEndsOnly flow → IsFlow new a b flow value → IsFlow old a b flow value
  flow_lowered flow value by_ends is_flow =
      let into = λ (m : ℕ). same_entering flow by_ends new.imports old.imports m ends in
      let out = λ (m : ℕ). same_leaving flow by_ends new.imports old.imports m ends in
      let size : length new.imports ≡ length old.imports = sym (length-map new.imports _) ∙ ap length ends ∙ length-map old.imports _ in
      record {
        within = at_numbers old.imports (λ i. flow i ≤ i.amount) (λ k h.
            let pair = same_pair new.imports old.imports k ends in
            let same = by_ends (import_in new.imports k) (import_in old.imports k) (ap (λ (p : Edge). p.from) pair) (ap (λ (p : Edge). p.to) pair) in
            let le = is_flow.within (import_in new.imports k) (renumbering new.imports k (omega (arith, size))) in
            let low = reduced k in
            omega arith);
        kept = λ m not_a not_b. sym (into m) ∙ is_flow.kept m not_a not_b ∙ out m;
        at_start = let i = into a in let o = out a in let s = is_flow.at_start in omega arith;
      }

module _ (net : Network) (a b : ℕ) (is : IsNetwork net) (ends : AreEnds net a b) (imports : List Priced) (source sink : ℕ) (below : HasReducedWeights net a b imports source sink) (s : State) where
  abbrev on_net : Priced → ℕ
  on_net = flow_by (flow_lines net.imports s.flow)

  forth : ends_of imports ≡ ends_of net.imports → (value : ℕ) → IsFlow (with_imports net imports) a b (flow_by (flow_lines imports s.flow)) value → IsFlow net a b on_net value
  forth same value flow =
      subst (λ lines. IsFlow net a b (flow_by lines) value) (lines_by_ends imports net.imports s.flow same (below_size net a b is ends imports source sink below))
      (flow_lowered net (with_imports net imports) a b same below.reduced (flow_by (flow_lines imports s.flow)) value (by_lines (flow_lines imports s.flow)) flow)

  back : ends_of imports ≡ ends_of (map reversed net.imports) → (value : ℕ) → IsFlow (with_imports net imports) b a (flow_by (flow_lines imports s.flow)) value → IsFlow net a b on_net value
  back same value flow =
      let size : length imports ≡ length (map reversed net.imports) = below_size net a b is ends imports source sink below ∙ sym (length-map net.imports reversed) in
      let low : (k : ℕ) → (import_in imports k).amount ≤ (import_in (map reversed net.imports) k).amount =
      λ k. subst (λ n. (import_in imports k).amount ≤ n) (sym (turned_amount net.imports k)) (below.reduced k) in
      let there = flow_lowered (reversed_net net) (with_imports net imports) b a same low (flow_by (flow_lines imports s.flow)) value (by_lines (flow_lines imports s.flow)) flow in
      let flows : flow_by (flow_lines imports s.flow) ≡ reversed_flow on_net =
      (λ i v. ap (λ lines. flow_by lines v) (lines_by_ends imports (map reversed net.imports) s.flow same size ∙ turned_lines net.imports s.flow) i) ∙ (λ i v. lines_turned (flow_lines net.imports s.flow) v i) in
      flow_round_back net a b on_net value is.between ends.to_in ends.apart (subst (λ g. IsFlow (reversed_net net) b a g value) flows there)

  -- the flow of what the preflow started on is a flow of the network
  pub below_flow : HasFlow (network_on (length net.names) imports source sink) s → (value : ℕ) × IsFlow net a b on_net value
  below_flow has =
      let there = with_imports net imports in
      let on = flow_by (flow_lines imports s.flow) in
      let value = value_of (network_on (length net.names) imports source sink) s in
      let flow : IsFlow there source sink on value = has there refl in
      elim below.direction [
        | inl w ↦ (value, forth w.0 value (subst (λ (m : ℕ). IsFlow there m b on value) w.1 (subst (λ (k : ℕ). IsFlow there source k on value) w.2 flow)))
        | inr w ↦ (value, back w.0 value (subst (λ (m : ℕ). IsFlow there m a on value) w.1 (subst (λ (k : ℕ). IsFlow there source k on value) w.2 flow)))
      ]

-- a search in the residual graph of this flow: the flags, and whether the second module is reached
pub record IsSearched (net : Network) (a b : ℕ) (flow : List ℕ) (source_side : List Bool) (came : Bool) : Type 0 where
  pub same : length flow ≡ length net.imports
  pub reached : AreReached (record { nodes = length net.names; arcs = arcs_with_flow net.imports flow }) a source_side
  pub closed : AreClosed (arcs_with_flow net.imports flow) source_side
  pub end : is_flagged source_side b ≡ came

-- the flow of the arcs is that flow
module _ (net : Network) (flow : List ℕ) (same : length flow ≡ length net.imports) (up : IsAscending net.imports) where
  abbrev arcs : List Arc
  arcs = arcs_with_flow net.imports flow

  abbrev on : Priced → ℕ
  on = flow_by (flow_lines net.imports flow)

  pub imports_are : imports_of arcs ≡ net.imports
  imports_are = carrying_imports net.imports flow same

  pub agree : (i : Priced) → Contains net.imports i → on i ≡ flow_on arcs i
  agree = at_numbers net.imports (λ i. on i ≡ flow_on arcs i) (λ k h.
      let size : length arcs ≡ length net.imports = sym (length-map arcs import_of_arc) ∙ ap length imports_are in
      let here : import_of_arc (get_or arcs k no_arc) ≡ import_in net.imports k =
      sym (get_or-map import_of_arc arcs k no_arc missing_item (omega arith)) ∙ ap (λ (v : List Priced). get_or v k missing_item) imports_are in
      flow_by_number net.imports flow (ascending_apart net.imports up) same k h ∙ sym (carrying_at net.imports flow same k h)
      ∙ sym (flow_is arcs (subst IsAscending (sym imports_are) up) k (omega arith)) ∙ ap (flow_on arcs) here)

-- so the flow is maximum if the search doesn't reach the sink
module _ (net : Network) (a b : ℕ) (flow : List ℕ) (source_side : List Bool) (came : Bool) (searched : IsSearched net a b flow source_side came) (up : IsAscending net.imports) (a_in : a < length net.names) where
  pub settled_greatest : (value : ℕ) → IsFlow net a b (flow_by (flow_lines net.imports flow)) value → came ≡ false →
      IsMaximumFlow net a b source_side (filter has_flow (map flow_line (arcs_with_flow net.imports flow)))
  settled_greatest value is missed = greatest_by net (arcs_with_flow net.imports flow) a b value (imports_are net flow searched.same up) up a_in
      (same_flow net a b (flow_by (flow_lines net.imports flow)) (flow_on (arcs_with_flow net.imports flow)) (agree net flow searched.same up) value is) source_side searched.reached searched.closed (searched.end ∙ missed)

  pub settled_end : IsUnreachable net (flow_by (flow_lines net.imports flow)) a b → came ≡ false
  settled_end barred = sym searched.end ∙ end_unmarked net (arcs_with_flow net.imports flow) a b (imports_are net flow searched.same up) up a_in (
    barred.0,
    record {
      start = barred.1.start;
      end = barred.1.end;
      closed = same_closed net a b (flow_by (flow_lines net.imports flow)) (flow_on (arcs_with_flow net.imports flow)) (agree net flow searched.same up) barred.0 barred.1.closed;
    },
  ) source_side searched.reached searched.closed
