-- A network's imports as the arcs of a residual graph.
use Rattle.std.proofs.Common.{◌≡◌, ◌≢◌, ℕ, zero, suc, ◌+◌, ◌-◌, ◌*◌, ◌/◌, ◌%◌, ◌<◌, ◌≤◌, ◌==◌, if◌then◌else◌, Bool, true, false, List, [], ◌∷◌, length, map, get_or, set, slice_index, refl, sym, ap, ◌∙◌, subst, arith, inl, inr}
use Rattle.std.specs.Prelude.{◌↔◌, All, Contains}
use Rattle.std.proofs.lemmas.List.{get_or-map, length-map, map-set}
use Rattle.std.proofs.Math.Seq.{map-set_same}
use Rattle.cut_net.specs.declared.priced.Priced.{Priced}
use Rattle.residual_graph.specs.declared.arc.Arc.{Arc}
use Rattle.residual_graph.specs.declared.arc.OutArc.{OutArc}
use Rattle.residual_graph.specs.declared.arc.ResidualArc.{ResidualArc}
use Rattle.residual_graph.specs.Flows.{pushed}
use Rattle.residual_graph.proofs.Walking.{along, reaches_itself}
use Rattle.residual_graph.specs.Graphs.{AreClosed, AreReached, HasArc, head, no_arc, residual, tail}
use Rattle.residual_graph.specs.OutArcs.{IsOutOf, no_out_arc, step_of}
use Rattle.cut_preflow.specs.FlowGraphs.{FlowGraphModel, IsArcFrom, initial_arc, initial_arcs, flow_of, flows_of, import_of, imports_of, arc_number, out_arc_number}
use Rattle.cut_preflow.specs.Preflow.{head_in, import_in, is_forward, opening_flows, residual_in, tail_in}
use Rattle.cut_preflow.specs.Side.{IsReachableSet, has}
use Rattle.cut_preflow.proofs.Arcs.{eq_from, eq_true, even_forward, half_even, half_odd, odd_back}
use Rattle.cut_preflow.proofs.Choices.{choice_le, pick_false, pick_true, true_or_false}

pub import_is : (arcs : List Arc) (k : ℕ) → import_in (imports_of arcs) k ≡ import_of (get_or arcs k no_arc)
import_is [] k = refl
import_is (r ∷ arcs) zero = refl
import_is (r ∷ arcs) (suc k) = import_is arcs k

pub flow_is : (arcs : List Arc) (k : ℕ) → get_or (flows_of arcs) k 0 ≡ (get_or arcs k no_arc).flow
flow_is [] k = refl
flow_is (r ∷ arcs) zero = refl
flow_is (r ∷ arcs) (suc k) = flow_is arcs k

-- the residual arc of a number
abbrev pub numbered : ℕ → ResidualArc
numbered a = record { arc = a / 2; forward = is_forward a }

pub tail_is : (arcs : List Arc) (a : ℕ) → tail_in (imports_of arcs) a ≡ tail arcs (numbered a)
tail_is arcs a = ap (λ (i : Priced). if is_forward a then i.from else i.to) (import_is arcs (a / 2))

pub head_is : (arcs : List Arc) (a : ℕ) → head_in (imports_of arcs) a ≡ head arcs (numbered a)
head_is arcs a = ap (λ (i : Priced). if is_forward a then i.to else i.from) (import_is arcs (a / 2))

pub residual_is : (arcs : List Arc) (a : ℕ) → residual_in (imports_of arcs) (flows_of arcs) a ≡ residual arcs (numbered a)
residual_is arcs a =
    ap (λ (i : Priced). if is_forward a then i.amount - get_or (flows_of arcs) (a / 2) 0 else get_or (flows_of arcs) (a / 2) 0) (import_is arcs (a / 2))
    ∙ ap (λ n. if is_forward a then (get_or arcs (a / 2) no_arc).capacity - n else n) (flow_is arcs (a / 2))

pub known_is : (arcs : List Arc) (a : ℕ) → a / 2 < length (imports_of arcs) → HasArc arcs (numbered a)
known_is arcs a low = let len = length-map arcs import_of in omega arith

-- a residual arc is that of its number
number_step : (s : ResidualArc) → numbered (arc_number s) ≡ s
number_step s = go s.arc s.forward
  where
    go : (k : ℕ) (f : Bool) → numbered (if f then 2 * k else 2 * k + 1) ≡ record { arc = k; forward = f }
    go k true = λ i. record { arc = half_even k i; forward = even_forward k i }
    go k false = λ i. record { arc = half_odd k i; forward = odd_back k i }

-- and a number that of its residual arc
step_number : (a : ℕ) → arc_number (numbered a) ≡ a
step_number a = elim (true_or_false (is_forward a)) [
  | inl e ↦ pick_true (is_forward a) (2 * (a / 2)) (2 * (a / 2) + 1) e ∙ (let even = eq_from (a % 2) 0 e in omega arith)
  | inr e ↦ pick_false (is_forward a) (2 * (a / 2)) (2 * (a / 2) + 1) e ∙ (let odd : a % 2 ≢ 0 = λ even. (let on = eq_true (a % 2) 0 even in cc) in omega arith)
]

number_low : (k : ℕ) (f : Bool) (m : ℕ) → k < m → (if f then 2 * k else 2 * k + 1) < 2 * m
number_low k true m low = omega arith
number_low k false m low = omega arith

pub arc_low : (k : ℕ) (f : Bool) (m : ℕ) → (if f then 2 * k else 2 * k + 1) < 2 * m → k < m
arc_low k true m low = omega arith
arc_low k false m low = omega arith

pub arc_from : (nodes : ℕ) (arcs : List Arc) (v : ℕ) (a : OutArc) → IsOutOf (record { nodes = nodes; arcs = arcs }) v a →
    IsArcFrom (record { nodes = nodes; imports = imports_of arcs; flow = flows_of arcs }) v a
arc_from nodes arcs v a out =
    let n = arc_number a.step in
    let is = number_step a.step in
    let len = length-map arcs import_of in
    let below = number_low a.step.arc a.step.forward (length arcs) out.known in
    record {
      arc = record {
        known = subst (λ m. n < 2 * m) (sym len) below;
        head_is = ap (λ (o : OutArc). o.head) out.beside ∙ ap (head arcs) (sym is) ∙ sym (head_is arcs n);
        residual_is = ap (λ (o : OutArc). o.residual) out.beside ∙ ap (residual arcs) (sym is) ∙ sym (residual_is arcs n);
        low = out.low;
      };
      leaves = tail_is arcs n ∙ ap (tail arcs) is ∙ out.leaves;
    }

contains_number : (outs : List OutArc) (s : ResidualArc) → Contains (map step_of outs) s → Contains (map out_arc_number outs) (arc_number s)
contains_number outs s (j, in_map, at) =
    let len = length-map outs step_of in
    let size = length-map outs out_arc_number in
    let in_outs : j < length outs = omega arith in
    (j, omega arith, get_or-map out_arc_number outs j no_out_arc (arc_number s) in_outs ∙ ap arc_number (sym (get_or-map step_of outs j no_out_arc s in_outs) ∙ at))

pub arcs_all : (nodes : ℕ) (arcs : List Arc) (v : ℕ) (outs : List OutArc) → ((s : ResidualArc) → HasArc arcs s → tail arcs s ≡ v → Contains (map step_of outs) s) →
    (a : ℕ) → a < 2 * length (imports_of arcs) → tail_in (imports_of arcs) a ≡ v → Contains (map out_arc_number outs) a
arcs_all nodes arcs v outs all a low leaves =
    let len = length-map arcs import_of in
    subst (Contains (map out_arc_number outs)) (step_number a)
    (contains_number outs (numbered a) (all (numbered a) (known_is arcs a (omega arith)) (sym (tail_is arcs a) ∙ leaves)))

-- the numbers of a node's arcs are those that leave from it
pub numbers_are : (g : FlowGraphModel) (v : ℕ) (outs : List OutArc) → All (IsArcFrom g v) outs → ((a : ℕ) → a < 2 * length g.imports → tail_in g.imports a ≡ v → Contains (map out_arc_number outs) a) →
    (a : ℕ) → Contains (map out_arc_number outs) a ↔ ((a < 2 * length g.imports) × (tail_in g.imports a ≡ v))
numbers_are g v outs each all a = (
  λ (j, in_map, at).
      let len = length-map outs out_arc_number in
      let in_outs : j < length outs = omega arith in
      let is : out_arc_number (get_or outs j no_out_arc) ≡ a = sym (get_or-map out_arc_number outs j no_out_arc a in_outs) ∙ at in
      let from = each j no_out_arc in_outs in
      subst (λ n. (n < 2 * length g.imports) × (tail_in g.imports n ≡ v)) is (from.arc.known, from.leaves),
  λ (low, leaves). all a low leaves,
)

pub opened_imports : (source : ℕ) (imports : List Priced) → imports_of (initial_arcs source imports) ≡ imports
opened_imports source [] = refl
opened_imports source (i ∷ imports) = ap (λ more. i ∷ more) (opened_imports source imports)

pub opened_flows : (source : ℕ) (imports : List Priced) → flows_of (initial_arcs source imports) ≡ opening_flows source imports
opened_flows source [] = refl
opened_flows source (i ∷ imports) = ap (λ more. (if i.from == source then i.amount else 0) ∷ more) (opened_flows source imports)

opened_at : (source : ℕ) (imports : List Priced) (k : ℕ) (d : Arc) → k < length imports → get_or (initial_arcs source imports) k d ≡ initial_arc source (import_in imports k)
opened_at source [] k d low = absurd (omega arith)
opened_at source (i ∷ imports) zero d low = refl
opened_at source (i ∷ imports) (suc k) d low = opened_at source imports k d (omega arith)

pub opened_within : (source : ℕ) (imports : List Priced) → All (λ r. r.flow ≤ r.capacity) (initial_arcs source imports)
opened_within source imports k d low =
    let len = length-map imports (initial_arc source) in
    let i = import_in imports k in
    subst (λ (r : Arc). r.flow ≤ r.capacity) (sym (opened_at source imports k d (omega arith))) (choice_le (i.from == source) i.amount)

pub opened_between : (source nodes : ℕ) (imports : List Priced) → ((k : ℕ) → k < length imports → ((import_in imports k).from < nodes) × ((import_in imports k).to < nodes)) →
    All (λ r. (r.from < nodes) × (r.to < nodes)) (initial_arcs source imports)
opened_between source nodes imports ends k d low =
    let len = length-map imports (initial_arc source) in
    let in_imports : k < length imports = omega arith in
    subst (λ (r : Arc). (r.from < nodes) × (r.to < nodes)) (sym (opened_at source imports k d in_imports)) (ends k in_imports)

-- what is sent over an arc changes its import's flow alone
module _ (arcs : List Arc) (a amount : ℕ) where
  abbrev pub sent : List Arc
  sent = set arcs (a / 2) (pushed (get_or arcs (a / 2) no_arc) (is_forward a) amount)

  pub sent_imports : imports_of sent ≡ imports_of arcs
  sent_imports = map-set_same import_of arcs (a / 2) (pushed (get_or arcs (a / 2) no_arc) (is_forward a) amount) no_arc refl

  pub sent_flows : flows_of sent ≡ set (flows_of arcs) (a / 2) (if is_forward a then slice_index (flows_of arcs) (a / 2) + amount else slice_index (flows_of arcs) (a / 2) - amount)
  sent_flows =
      map-set flow_of arcs (a / 2) (pushed (get_or arcs (a / 2) no_arc) (is_forward a) amount)
      ∙ ap (λ n. set (flows_of arcs) (a / 2) (if is_forward a then n + amount else n - amount)) (sym (flow_is arcs (a / 2)))

-- what a search marks is the least set with its start that no arc with something left leaves
pub reach_is : (nodes : ℕ) (arcs : List Arc) (source : ℕ) (bits : List Bool) → source < nodes → AreReached (record { nodes = nodes; arcs = arcs }) source bits → AreClosed arcs bits →
    IsReachableSet (imports_of arcs) (flows_of arcs) source bits
reach_is nodes arcs source bits low reached closed =
    let len = length-map arcs import_of in
    record {
      starts = (reached.each source).1 (low, reaches_itself arcs source);
      closed = λ a below room on.
          subst (λ v. has bits v ≡ true) (sym (head_is arcs a))
          (closed (numbered a) (known_is arcs a (omega arith)) (subst (λ n. 0 < n) (residual_is arcs a) room) (subst (λ v. has bits v ≡ true) (tail_is arcs a) on));
      least = λ side on shut v h.
          let (in_nodes, (path, way)) = (reached.each v).0 h in
          along (λ n. side n ≡ true) arcs (λ s known left from.
          let n = arc_number s in
          let is = number_step s in
          let below = number_low s.arc s.forward (length arcs) known in
          subst (λ u. side u ≡ true) (head_is arcs n ∙ ap (head arcs) is)
          (shut n (subst (λ m. n < 2 * m) (sym len) below) (subst (λ m. 0 < m) (sym (residual_is arcs n ∙ ap (residual arcs) is)) left) (subst (λ u. side u ≡ true) (sym (tail_is arcs n ∙ ap (tail arcs) is)) from)))
          source path v way.is_path.leads way.is_path.known way.left on;
    }
