-- The modules with a path to the sink by imports that don't leave the minimal source side: those that the reversed arcs reach from the
-- sink.
use Rattle.std.proofs.Common.{◌≡◌, ℕ, ◌-◌, ◌≤◌, ◌<◌, Bool, true, false, cond, List, [], ◌∷◌, length, get_or, refl, sym, ap, ◌∙◌, subst, arith}
use Rattle.std.specs.Prelude.{All, map, ◌↔◌}
use Rattle.std.proofs.lemmas.List.{length-map, get_or-map}
use Rattle.std.proofs.lemmas.List.Elements.{Contains-get_or}
use Rattle.cut_net.specs.Network.{missing_item}
use Rattle.cut_net.specs.declared.priced.Priced.{Priced}
use Rattle.cut_net.specs.Cuts.{leaves, Chain, IsChain, Outside}
use Rattle.cut_net.specs.WellFormed.{AreBetween}
use Rattle.cut_net.proofs.Chains.{step}
use Rattle.residual_graph.specs.declared.arc.Arc.{Arc}
use Rattle.residual_graph.specs.Graphs.{no_arc, room, head, tail, is_flagged, AreClosed, AreReached}
use Rattle.residual_graph.proofs.Walking.{along}
use Rattle.cut_solve.specs.Lines.{reversed_arc_of}

some_left : (t : Bool) → 0 < cond t 0 1 - 0 → t ≡ false
some_left true h = absurd (omega arith)
some_left false h = refl

left_some : (t : Bool) → t ≡ false → 0 < cond t 0 1 - 0
left_some t e = rw e (omega arith)

pub reversed_within : (source_side : List Bool) (imports : List Priced) → All (λ r. r.flow ≤ r.capacity) (map (reversed_arc_of source_side) imports)
reversed_within source_side imports k d h =
    let len = length-map imports (reversed_arc_of source_side) in
    rw (get_or-map (reversed_arc_of source_side) imports k missing_item d (omega arith)) (omega arith)

pub reversed_between : (source_side : List Bool) (imports : List Priced) (n : ℕ) → AreBetween imports n → All (λ r. (r.from < n) × (r.to < n)) (map (reversed_arc_of source_side) imports)
reversed_between source_side imports n between k d h =
    let len = length-map imports (reversed_arc_of source_side) in
    let in_k : k < length imports = omega arith in
    let own = between (get_or imports k missing_item) (Contains-get_or imports k missing_item in_k) in
    rw (get_or-map (reversed_arc_of source_side) imports k missing_item d in_k) (own.1, own.0)

module _ (imports : List Priced) (source_side : List Bool) where
  goes : (b k : ℕ) (forward : Bool) → k < length (map (reversed_arc_of source_side) imports) → 0 < room (get_or (map (reversed_arc_of source_side) imports) k no_arc) forward →
      Chain imports (Outside (leaves (is_flagged source_side))) (tail (map (reversed_arc_of source_side) imports) (record { arc = k; forward = forward })) b →
      Chain imports (Outside (leaves (is_flagged source_side))) (head (map (reversed_arc_of source_side) imports) (record { arc = k; forward = forward })) b
  goes b k true h some c =
      let len = length-map imports (reversed_arc_of source_side) in
      let in_k : k < length imports = omega arith in
      let i = get_or imports k missing_item in
      let e : get_or (map (reversed_arc_of source_side) imports) k no_arc ≡ reversed_arc_of source_side i = get_or-map (reversed_arc_of source_side) imports k missing_item no_arc in_k in
      let stays = some_left (leaves (is_flagged source_side) i) (subst (λ (r : Arc). 0 < r.capacity - r.flow) e some) in
      let from_to = subst (λ (r : Arc). Chain imports (Outside (leaves (is_flagged source_side))) r.from b) e c in
      subst (λ (r : Arc). Chain imports (Outside (leaves (is_flagged source_side))) r.to b) (sym e)
      (step imports (Outside (leaves (is_flagged source_side))) b i (Contains-get_or imports k missing_item in_k) stays from_to)
  goes b k false h some c =
      let len = length-map imports (reversed_arc_of source_side) in
      let in_k : k < length imports = omega arith in
      let i = get_or imports k missing_item in
      let e : get_or (map (reversed_arc_of source_side) imports) k no_arc ≡ reversed_arc_of source_side i = get_or-map (reversed_arc_of source_side) imports k missing_item no_arc in_k in
      let none = subst (λ (r : Arc). 0 < r.flow) e some in
      absurd (omega arith)

  module _ (nodes b : ℕ) (sink_side : List Bool) (b_in : b < nodes) (reached : AreReached (record { nodes = nodes; arcs = map (reversed_arc_of source_side) imports }) b sink_side)
      (closed : AreClosed (map (reversed_arc_of source_side) imports) sink_side) where
    to_chain : (m : ℕ) → is_flagged sink_side m ≡ true → Chain imports (Outside (leaves (is_flagged source_side))) m b
    to_chain m t =
        let (in_m, (path, direction)) = (reached.each m).0 t in
        along (λ v. Chain imports (Outside (leaves (is_flagged source_side))) v b) (map (reversed_arc_of source_side) imports) (λ s known left. goes b s.arc s.forward known left)
        b path m direction.is_path.leads direction.is_path.known direction.left ([], refl)

    from_list : (m : ℕ) (more : List ℕ) → IsChain imports (Outside (leaves (is_flagged source_side))) m more b → is_flagged sink_side m ≡ true
    from_list m [] e =
        (reached.each m).1 (
          subst (λ v. v < nodes) (sym e) b_in,
          (
            [],
            record {
              is_path = record { leads = sym e; known = λ k d h. absurd (omega arith); once = λ i j d h in_j. absurd (omega arith) };
              left = λ k d h. absurd (omega arith);
            },
          ),
        )
    from_list m (n ∷ more) ((i, (k, in_k, at_k), ef, et, stays), rest) =
        let len = length-map imports (reversed_arc_of source_side) in
        let next = from_list n more rest in
        let e : get_or (map (reversed_arc_of source_side) imports) k no_arc ≡ reversed_arc_of source_side i = get_or-map (reversed_arc_of source_side) imports k i no_arc in_k ∙ ap (reversed_arc_of source_side) at_k in
        let goes_on : 0 < (get_or (map (reversed_arc_of source_side) imports) k no_arc).capacity - (get_or (map (reversed_arc_of source_side) imports) k no_arc).flow →
        is_flagged sink_side (get_or (map (reversed_arc_of source_side) imports) k no_arc).from ≡ true → is_flagged sink_side (get_or (map (reversed_arc_of source_side) imports) k no_arc).to ≡ true =
        closed (record { arc = k; forward = true }) (omega arith) in
        let at_i : 0 < cond (leaves (is_flagged source_side) i) 0 1 - 0 → is_flagged sink_side i.to ≡ true → is_flagged sink_side i.from ≡ true =
        subst (λ (r : Arc). 0 < r.capacity - r.flow → is_flagged sink_side r.from ≡ true → is_flagged sink_side r.to ≡ true) e goes_on in
        subst (λ v. is_flagged sink_side v ≡ true) ef (at_i (left_some (leaves (is_flagged source_side) i) stays) (subst (λ v. is_flagged sink_side v ≡ true) (sym et) next))

    pub chains : (m : ℕ) → (is_flagged sink_side m ≡ true) ↔ Chain imports (Outside (leaves (is_flagged source_side))) m b
    chains m = (to_chain m, λ (more, chain). from_list m more chain)
