-- The modules that can be worked on, by the imports and by the import lists.
use Rattle.std.proofs.Common.{◌≡◌, ℕ, ◌<◌, List, Bool, length, refl, sym, ◌∙◌, ap, arith, subst, eq-eqb, eqb-true}
use Rattle.std.specs.Prelude.{Contains, filter, ◌↔◌, ◌==◌}
use Rattle.digraph.specs.declared.edge.Edge.{Edge}
use Rattle.ob_imports.specs.Graphs.{CanStart, ImportGraph, imported, IsListOf, IsReady}
use Rattle.digraph.specs.Marks.{list_at}
use Rattle.digraph.specs.Edges.{Leads}
use Rattle.digraph.proofs.Members.{from_map, in_filter, in_map, of_filter}

pub imported_leads : (pairs : List Edge) (v w : ℕ) → Contains (imported pairs v) w ↔ Leads pairs v w
imported_leads pairs v w = (
  λ h. (
      let p = from_map (λ (q : Edge). q.to) (filter (λ q. q.from == v) pairs) w h in
      let f = of_filter (λ (q : Edge). q.from == v) pairs p.0 p.1 in
      let from : p.0.from ≡ v = eqb-true p.0.from v f.1 in
      let to : p.0.to ≡ w = p.2 in
      let is : p.0 ≡ record { from = v; to = w } = ap (λ (x : ℕ). record { from = x; to = p.0.to }) from ∙ ap (λ (x : ℕ). record { from = v; to = x }) to in
      subst (Contains pairs) is f.0),
  λ h. in_map (λ (q : Edge). q.to) (filter (λ q. q.from == v) pairs) (record { from = v; to = w }) (in_filter (λ (q : Edge). q.from == v) pairs (record { from = v; to = w }) (eq-eqb v v refl) h),
)

listed_as : (P Q : ℕ → Type 0) → ((v : ℕ) → P v ↔ Q v) → (vs : List ℕ) → IsListOf P vs → IsListOf Q vs
listed_as P Q same vs l = record {
  each = λ k h. (same _).0 (l.each k h);
  all = λ v q. l.all v ((same v).1 q);
  ascending = l.ascending;
}

pub ready_as : (g : ImportGraph) (rows : List (List ℕ)) (done : List Bool) → length done ≡ g.modules → ((v : ℕ) → list_at rows v ≡ imported g.pairs v)
    → (vs : List ℕ) → IsListOf (CanStart rows done) vs → IsListOf (IsReady g done) vs
ready_as g rows done size are vs l = listed_as (CanStart rows done) (IsReady g done) (λ v. (
  λ s. record {
    in_tree = (let h : v < length done = s.in_tree in omega arith);
    not_done = s.not_done;
    imports_done = λ w leads h. s.imports_done w (subst (λ (r : List ℕ). Contains r w) (sym (are v)) ((imported_leads g.pairs v w).1 leads)) (omega arith);
  },
  λ r. record {
    in_tree = (let h : v < g.modules = r.in_tree in omega arith);
    not_done = r.not_done;
    imports_done = λ w has h. r.imports_done w ((imported_leads g.pairs v w).0 (subst (λ (r : List ℕ). Contains r w) (are v) has)) (omega arith);
  },
)) vs l
