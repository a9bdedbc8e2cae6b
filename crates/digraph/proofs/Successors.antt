-- The successors of a node, and their order.
use Rattle.std.proofs.Common.{◌≡◌, ℕ, ◌<◌, inl, inr, List, [], length, get_or, refl, sym, ◌∙◌, ap, ap₂, subst, arith}
use Rattle.std.specs.Prelude.{◌↔◌, AllPairs, Contains, IsTrue, filter, ◌==◌}
use Rattle.std.proofs.lemmas.Bool.{and_parts, eq-eqb, eqb-true, ltb-true, or_cases}
use Rattle.std.proofs.lemmas.List.{get_or-map, length-map}
use Rattle.std.proofs.lemmas.List.Elements.{filter_passes}
use Rattle.std.proofs.lemmas.List.Kept.{AllPairs-filter}
use Rattle.std.specs.Global.{Vec}
use Rattle.digraph.specs.declared.edge.Edge.{Edge}
use Rattle.digraph.specs.Edges.{comes_before, IsAscending, Leads, successors}
use Rattle.digraph.specs.Marks.{lists, missing_item, list_at}
use Rattle.digraph.proofs.Members.{from_map, in_filter, in_map, of_filter}

-- they are the targets of the node's edges
pub successor : (edges : List Edge) (v w : ℕ) → Contains (successors edges v) w ↔ Leads edges v w
successor edges v w = (
  λ has.
      let (p, there, to) = from_map (λ (q : Edge). q.to) (filter (λ q. q.from == v) edges) w has in
      let (known, from) = of_filter (λ (q : Edge). q.from == v) edges p there in
      let e : p ≡ record { from = v; to = w } = ap₂ (λ (m n : ℕ). record { from = m; to = n }) (eqb-true p.from v from) to in
      subst (Contains edges) e known,
  λ leads. in_map (λ (q : Edge). q.to) (filter (λ q. q.from == v) edges) (record { from = v; to = w }) (in_filter (λ (q : Edge). q.from == v) edges (record { from = v; to = w }) (eq-eqb v v refl) leads),
)

-- the successors of a node are strictly sorted
pub successors_ascend : (edges : List Edge) (v : ℕ) → IsAscending edges → AllPairs (λ (m n : ℕ). m < n) (successors edges v)
successors_ascend edges v up i j d less in_j =
    let some = filter (λ (p : Edge). p.from == v) edges in
    let long = length-map some (λ p. p.to) in
    let i_in : i < length some = omega arith in
    let j_in : j < length some = omega arith in
    let i_from : (get_or some i missing_item).from ≡ v = eqb-true (get_or some i missing_item).from v (filter_passes (λ (p : Edge). p.from == v) edges i missing_item i_in) in
    let j_from : (get_or some j missing_item).from ≡ v = eqb-true (get_or some j missing_item).from v (filter_passes (λ (p : Edge). p.from == v) edges j missing_item j_in) in
    let before = AllPairs-filter (λ (p q : Edge). IsTrue (comes_before p q)) (λ p. p.from == v) edges up i j missing_item less j_in in
    rw (get_or-map (λ (p : Edge). p.to) some i missing_item d i_in, get_or-map (λ (p : Edge). p.to) some j missing_item d j_in)
    (elim (or_cases _ _ before) [
      | inl l ↦ let low : (get_or some i missing_item).from < (get_or some j missing_item).from = ltb-true (get_or some i missing_item).from (get_or some j missing_item).from l in absurd (omega arith)
      | inr r ↦ ltb-true (get_or some i missing_item).to (get_or some j missing_item).to (and_parts _ _ r).1
    ])

-- the list of a node has its successors
pub row_is : (edges : List Edge) (rows : List (Vec ℕ)) (at : ℕ) (row : Vec ℕ) (items : List ℕ) → items ≡ row.items → row ≡ get_or rows at row → at < length rows →
    list_at (lists rows) at ≡ successors edges at → items ≡ successors edges at
row_is edges rows at row items value is in_rows same =
    let of : Vec ℕ → List ℕ = λ r. r.items in
    value ∙ ap of is ∙ sym (get_or-map of rows at row [] in_rows) ∙ same
