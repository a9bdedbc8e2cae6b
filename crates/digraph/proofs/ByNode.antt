-- Lists of predecessors for each node.
use Rattle.std.proofs.Common.{◌≡◌, ℕ, suc, ◌+◌, ◌<◌, List, [], ◌∷◌, ◌++◌, length, map, take, refl, sym, ap, ◌∙◌, arith, inl, inr, eq-eqb, subst}
use Rattle.std.specs.Prelude.{filter, slice_set, ◌==◌}
use Rattle.std.proofs.lemmas.Bool.{cases_eq, cases_Bool, false_from_ne_true, eqb-true}
use Rattle.std.proofs.lemmas.List.{append-nil, get_or-set_same, get_or-set_other, map-append}
use Rattle.std.proofs.lemmas.List.Elements.{filter-append}
use Rattle.std.proofs.Math.Seq.{take-suc}
use Rattle.digraph.specs.declared.edge.Edge.{Edge}
use Rattle.digraph.specs.Edges.{successors, predecessors}
use Rattle.digraph.specs.Marks.{edge_at, missing_item, list_at}
use Rattle.digraph.specs.Edges.{transpose}
use Rattle.digraph.specs.Edges.{AreBetween}
use Rattle.digraph.proofs.Members.{from_map}

predecessors_more : (edges : List Edge) (k v : ℕ) → k < length edges → predecessors (take (k + 1) edges) v ≡ predecessors (take k edges) v ++ predecessors (edge_at edges k ∷ []) v
predecessors_more edges k v l =
    let more : take (k + 1) edges ≡ take k edges ++ edge_at edges k ∷ [] = ap (λ (n : ℕ). take n edges) (let e : k + 1 ≡ suc k = omega arith in e) ∙ take-suc edges k missing_item l in
    ap (λ (ps : List Edge). predecessors ps v) more
    ∙ ap (map (λ p. p.from)) (filter-append (λ p. p.to == v) (take k edges) (edge_at edges k ∷ []))
    ∙ map-append (λ p. p.from) (filter (λ p. p.to == v) (take k edges)) (filter (λ p. p.to == v) (edge_at edges k ∷ []))

pub rows_more : (edges : List Edge) (rows new : List (List ℕ)) (k : ℕ) → k < length edges → (edge_at edges k).to < length rows
    → ((v : ℕ) → list_at rows v ≡ predecessors (take k edges) v)
    → new ≡ slice_set rows (edge_at edges k).to (list_at rows (edge_at edges k).to ++ (edge_at edges k).from ∷ [])
    → (v : ℕ) → list_at new v ≡ predecessors (take (k + 1) edges) v
rows_more edges rows new k l within old is v =
    let to = (edge_at edges k).to in
    let from = (edge_at edges k).from in
    elim (cases_eq to v) [
      | inl e ↦
          let own : list_at new to ≡ list_at rows to ++ from ∷ [] = ap (λ (r : List (List ℕ)). list_at r to) is ∙ get_or-set_same rows to (list_at rows to ++ from ∷ []) [] within in
          let one : predecessors (edge_at edges k ∷ []) v ≡ from ∷ [] = rw (eq-eqb to v e) refl in
          ap (list_at new) (sym e) ∙ own ∙ ap (λ (r : List ℕ). r ++ from ∷ []) (ap (list_at rows) e ∙ old v) ∙ sym (predecessors_more edges k v l ∙ ap (λ (r : List ℕ). predecessors (take k edges) v ++ r) one)
      | inr ne ↦
          let other : list_at new v ≡ list_at rows v = ap (λ (r : List (List ℕ)). list_at r v) is ∙ get_or-set_other rows to v (list_at rows to ++ from ∷ []) [] (λ e. ne (sym e)) in
          let none : predecessors (edge_at edges k ∷ []) v ≡ [] = rw (false_from_ne_true (to == v) (λ t. ne (eqb-true to v t))) refl in
          other ∙ old v ∙ sym (predecessors_more edges k v l ∙ ap (λ (r : List ℕ). predecessors (take k edges) v ++ r) none ∙ append-nil (predecessors (take k edges) v))
    ]

-- the converse
pub predecessors_flipped : (edges : List Edge) (v : ℕ) → predecessors (map transpose edges) v ≡ successors edges v
predecessors_flipped [] v = refl
predecessors_flipped (p ∷ ps) v = elim (cases_Bool (p.from == v)) [
  | inl t ↦ rw t (ap (λ (r : List ℕ). p.to ∷ r) (predecessors_flipped ps v))
  | inr f ↦ rw f (predecessors_flipped ps v)
]

pub flipped_between : (edges : List Edge) (count : ℕ) → AreBetween edges count → AreBetween (map transpose edges) count
flipped_between edges count between p h =
    let q = from_map transpose edges p h in
    let b = between q.0 q.1 in
    subst (λ (r : Edge). (r.from < count) × (r.to < count)) q.2 (b.1, b.0)
