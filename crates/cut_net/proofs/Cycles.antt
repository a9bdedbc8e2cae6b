-- The imports without their weights make the same graph.
use Rattle.std.proofs.Common.{◌≡◌, ℕ, ◌<◌, List, length, map, ◌∙◌, ap, subst, arith}
use Rattle.std.specs.Prelude.{Contains, IfNone, Option, None, Some}
use Rattle.std.proofs.lemmas.List.{length-map, get_or-map}
use Rattle.digraph.specs.declared.edge.Edge.{Edge}
use Rattle.digraph.specs.Edges as edges
use Rattle.digraph.proofs.SameGraphs.{AreSame}
use Rattle.cut_net.specs.declared.priced.Priced.{Priced}
use Rattle.cut_net.specs.Lines.{IsAscending, edge_of}
use Rattle.cut_net.specs.Network.{missing_item}
use Rattle.cut_net.specs.Cuts.{Any, Imports}
use Rattle.cut_net.specs.WellFormed.{AreBetween}
use Rattle.digraph.proofs.Members.{from_map, in_map}

pub same_graph : (imports : List Priced) → AreSame (edges.Leads (map edge_of imports)) (Imports imports Any)
same_graph imports m n = (
  λ h. let i = from_map edge_of imports (record { from = m; to = n }) h in (i.0, i.1, ap (λ (p : Edge). p.from) i.2, ap (λ (p : Edge). p.to) i.2, tt),
  λ (i, has, from, to, _). (
      let f : i.from ≡ m = from in
      let t : i.to ≡ n = to in
      let e : edge_of i ≡ record { from = m; to = n } = ap (λ (x : ℕ). record { from = x; to = i.to }) f ∙ ap (λ (x : ℕ). record { from = m; to = x }) t in
      subst (λ (p : Edge). Contains (map edge_of imports) p) e (in_map edge_of imports i has)),
)

pub pairs_between : (imports : List Priced) (count : ℕ) → AreBetween imports count → edges.AreBetween (map edge_of imports) count
pairs_between imports count between p h =
    let i = from_map edge_of imports p h in
    subst (λ (q : Edge). (q.from < count) × (q.to < count)) i.2 (between i.0 i.1)

pub pairs_ascend : (imports : List Priced) → IsAscending imports → edges.IsAscending (map edge_of imports)
pairs_ascend imports up j k d lt l =
    let long : length (map edge_of imports) ≡ length imports = length-map imports edge_of in
    rw (get_or-map edge_of imports j missing_item d (omega arith), get_or-map edge_of imports k missing_item d (omega arith)) (up j k missing_item lt (omega arith))

-- the consequence of a clause about a None
pub IfNone_then : {X : Type 0} (o : Option X) {P Q : Type 0} → (P → Q) → IfNone o P → IfNone o Q
IfNone_then None to h = to h
IfNone_then (Some x) to h = h
