-- The modules that a search over the imports flags, and the flags of the subnetwork.
use Rattle.std.proofs.Common.{◌≡◌, ℕ, ◌-◌, ◌≤◌, ◌<◌, Bool, true, false, ◌&&◌, List, [], ◌∷◌, length, map, get_or, refl, sym, ap, ◌∙◌, subst, arith}
use Rattle.std.specs.Prelude.{All}
use Rattle.std.proofs.lemmas.Bool.{and_parts, and_from}
use Rattle.std.proofs.lemmas.List.{get_or-map, length-map}
use Rattle.std.proofs.lemmas.List.Elements.{Contains-get_or}
use Rattle.digraph.proofs.Members.{from_map}
use Rattle.cut_net.specs.declared.priced.Priced.{Priced}
use Rattle.cut_net.specs.Network.{Network, missing_item}
use Rattle.cut_net.specs.WellFormed.{AreBetween}
use Rattle.cut_net.specs.Cuts.{Any, IsSetOf, Chain, IsChain}
use Rattle.residual_graph.specs.declared.arc.Arc.{Arc}
use Rattle.residual_graph.specs.Graphs.{no_arc, room, head, tail, is_flagged, AreClosed, AreReached}
use Rattle.residual_graph.proofs.Walking.{along, reaches_itself}
use Rattle.cut_part.specs.Subnetworks.{IsBetween}
use Rattle.cut_part.specs.Marks.{unit_capacity_arc, AreReachable}
use Rattle.cut_part.specs.Reversal.{reversed}
use Rattle.cut_part.proofs.Subnetworks.{onward}
use Rattle.cut_part.proofs.Reversal.{twice}

pub open_within : (imports : List Priced) → All (λ r. r.flow ≤ r.capacity) (map unit_capacity_arc imports)
open_within imports k d h =
    let len = length-map imports unit_capacity_arc in
    rw (get_or-map unit_capacity_arc imports k missing_item d (omega arith)) (omega arith)

pub open_between : (imports : List Priced) (n : ℕ) → AreBetween imports n → All (λ r. (r.from < n) × (r.to < n)) (map unit_capacity_arc imports)
open_between imports n between k d h =
    let len = length-map imports unit_capacity_arc in
    let in_k : k < length imports = omega arith in
    rw (get_or-map unit_capacity_arc imports k missing_item d in_k) (between (get_or imports k missing_item) (Contains-get_or imports k missing_item in_k))

module _ (imports : List Priced) where
  goes : (start k : ℕ) (forward : Bool) → k < length (map unit_capacity_arc imports) → 0 < room (get_or (map unit_capacity_arc imports) k no_arc) forward →
      Chain imports Any start (tail (map unit_capacity_arc imports) (record { arc = k; forward = forward })) → Chain imports Any start (head (map unit_capacity_arc imports) (record { arc = k; forward = forward }))
  goes start k true h some c =
      let len = length-map imports unit_capacity_arc in
      let in_k : k < length imports = omega arith in
      let i = get_or imports k missing_item in
      let e : get_or (map unit_capacity_arc imports) k no_arc ≡ unit_capacity_arc i = get_or-map unit_capacity_arc imports k missing_item no_arc in_k in
      let from_is = subst (λ (r : Arc). Chain imports Any start r.from) e c in
      subst (λ (r : Arc). Chain imports Any start r.to) (sym e) (onward imports start i (Contains-get_or imports k missing_item in_k) from_is)
  goes start k false h some c =
      let len = length-map imports unit_capacity_arc in
      let in_k : k < length imports = omega arith in
      let i = get_or imports k missing_item in
      let e : get_or (map unit_capacity_arc imports) k no_arc ≡ unit_capacity_arc i = get_or-map unit_capacity_arc imports k missing_item no_arc in_k in
      let none = subst (λ (r : Arc). 0 < r.flow) e some in
      absurd (omega arith)

  module _ (nodes start : ℕ) (marks : List Bool) (start_in : start < nodes) (reached : AreReached (record { nodes = nodes; arcs = map unit_capacity_arc imports }) start marks)
      (closed : AreClosed (map unit_capacity_arc imports) marks) where
    to_chain : (m : ℕ) → is_flagged marks m ≡ true → Chain imports Any start m
    to_chain m t =
        let (in_m, (path, way)) = (reached.each m).0 t in
        along (λ v. Chain imports Any start v) (map unit_capacity_arc imports) (λ s known left. goes start s.arc s.forward known left)
        start path m way.is_path.leads way.is_path.known way.left ([], refl)

    along_chain : (m : ℕ) → is_flagged marks m ≡ true → (more : List ℕ) (n : ℕ) → IsChain imports Any m more n → is_flagged marks n ≡ true
    along_chain m t [] n e = subst (λ v. is_flagged marks v ≡ true) e t
    along_chain m t (x ∷ more) n ((i, (k, in_k, at_k), from, to, any), rest) =
        let len = length-map imports unit_capacity_arc in
        let e : get_or (map unit_capacity_arc imports) k no_arc ≡ unit_capacity_arc i = get_or-map unit_capacity_arc imports k i no_arc in_k ∙ ap unit_capacity_arc at_k in
        let goes_on : 0 < (get_or (map unit_capacity_arc imports) k no_arc).capacity - (get_or (map unit_capacity_arc imports) k no_arc).flow →
        is_flagged marks (get_or (map unit_capacity_arc imports) k no_arc).from ≡ true → is_flagged marks (get_or (map unit_capacity_arc imports) k no_arc).to ≡ true =
        closed (record { arc = k; forward = true }) (omega arith) in
        let at_i : 0 < 1 - 0 → is_flagged marks i.from ≡ true → is_flagged marks i.to ≡ true =
        subst (λ (r : Arc). 0 < r.capacity - r.flow → is_flagged marks r.from ≡ true → is_flagged marks r.to ≡ true) e goes_on in
        let t_to = at_i (omega arith) (subst (λ v. is_flagged marks v ≡ true) (sym from) t) in
        along_chain x (subst (λ v. is_flagged marks v ≡ true) to t_to) more n rest

    pub are_chained : AreReachable imports start marks
    are_chained m =
        (to_chain m, λ (more, chain). along_chain start ((reached.each start).1 (start_in, reaches_itself (map unit_capacity_arc imports) start)) more m chain)

-- a path of reversed imports, read backwards
pub chain_back : (imports : List Priced) (b : ℕ) (more : List ℕ) (m : ℕ) → IsChain (map reversed imports) Any b more m → Chain imports Any m b
chain_back imports b [] m e = ([], sym e)
chain_back imports b (n ∷ more) m ((i, c, from, to, any), rest) =
    let was = from_map reversed imports i c in
    let to_is : was.0.to ≡ b = ap (λ (j : Priced). j.from) was.2 ∙ from in
    let from_is : was.0.from ≡ n = ap (λ (j : Priced). j.to) was.2 ∙ to in
    let before = chain_back imports n more m rest in
    subst (Chain imports Any m) to_is (onward imports m was.0 was.1 (subst (Chain imports Any m) (sym from_is) before))

pub chain_forth : (imports : List Priced) (b : ℕ) (more : List ℕ) (m : ℕ) → IsChain imports Any m more b → Chain (map reversed imports) Any b m
chain_forth imports b more m chain =
    chain_back (map reversed imports) m more b (subst (λ (all : List Priced). IsChain all Any m more b) (sym (twice imports)) chain)

-- the flags of both searches are those of the modules between
pub both_between : (net : Network) (a b : ℕ) (forth back marks : List Bool) → AreReachable net.imports a forth → AreReachable (map reversed net.imports) b back →
    ((m : ℕ) → is_flagged marks m ≡ (is_flagged forth m && is_flagged back m)) → IsSetOf (is_flagged marks) (IsBetween net a b)
both_between net a b forth back marks from_a to_b both m = (
  λ t.
      let parts = and_parts (is_flagged forth m) (is_flagged back m) (sym (both m) ∙ t) in
      let to_m = (to_b m).0 parts.1 in
      ((from_a m).0 parts.0, chain_back net.imports b to_m.0 m to_m.1),
  λ between. both m ∙ and_from _ _ ((from_a m).1 between.0) ((to_b m).1 (chain_forth net.imports b between.1.0 m between.1.1)),
)
