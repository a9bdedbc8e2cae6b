-- The imports of a module of the tree, as lists of module numbers.
use Rattle.std.proofs.Common.{◌≡◌, ◌<◌, ◌≤◌, ℕ, Bool, List, [], length, refl, sym, ap, subst, arith, inl, inr}
use Rattle.std.specs.Prelude.{Contains, nat_lt, ◌==◌}
use Rattle.std.specs.List.{filter}
use Rattle.std.proofs.lemmas.Bool.{cases_lt, eq-eqb, eqb-true, lt-ltb, ltb-true}
use Rattle.std.proofs.lemmas.List.{get_or_past, length-map, length-take-le}
use Rattle.std.proofs.lemmas.List.Elements.{Contains-get_or}
use Rattle.std.proofs.lemmas.List.Sums.{count_by-le-length, length-filter}
use Rattle.std.proofs.lemmas.List.FromFn.{get_or-map-range_with_len, length-map-range_with_len}
use Rattle.digraph.specs.declared.edge.Edge.{Edge}
use Rattle.digraph.specs.Edges.{Leads}
use Rattle.digraph.proofs.Members.{from_map, in_filter, in_map, no_member, of_filter}
use Rattle.ob_imports.specs.Graphs.{imported, ImportGraph, IsGraph as IsImportGraph}
use Rattle.work_board.specs.Graphs.{list_at, IsGraph, ImportsModule}
use Rattle.ob_board.specs.BoardGraphs.{modules_of, rows_below, tree_imports}

row_leads : (ps : List Edge) (v w : ℕ) → Contains (imported ps v) w → Leads ps v w
row_leads ps v w there =
    let (p, has, to) = from_map (λ (p : Edge). p.to) (filter (λ (p : Edge). p.from == v) ps) w there in
    let (old, passes) = of_filter (λ (p : Edge). p.from == v) ps p has in
    let from : p.from ≡ v = eqb-true p.from v passes in
    let same : p ≡ record { from = v; to = w } = λ k. record { from = from k; to = to k } in
    subst (Contains ps) same old

leads_row : (ps : List Edge) (v w : ℕ) → Leads ps v w → Contains (imported ps v) w
leads_row ps v w leads =
    in_map (λ (p : Edge). p.to) (filter (λ (p : Edge). p.from == v) ps) (record { from = v; to = w })
    (in_filter (λ (p : Edge). p.from == v) ps (record { from = v; to = w }) (eq-eqb v v refl) leads)

module _ (g : ImportGraph) where
  pub row_is : (v : ℕ) → v < g.modules → list_at (rows_below g g.modules) v ≡ tree_imports g v
  row_is v lt = get_or-map-range_with_len (tree_imports g) 0 g.modules v v [] lt (omega arith)

  row_past : (v : ℕ) → g.modules ≤ v → list_at (rows_below g g.modules) v ≡ []
  row_past v le = let l = length-map-range_with_len (tree_imports g) 0 g.modules in get_or_past (rows_below g g.modules) v [] (omega arith)

  -- an import in such a list leads from a module of the tree to one
  pub leads_on : (v w : ℕ) → ImportsModule (rows_below g g.modules) v w → (v < g.modules) × (w < g.modules) × Leads g.pairs v w
  leads_on v w h =
      elim (cases_lt v g.modules) [
        | inl lt ↦
            let there : Contains (tree_imports g v) w = subst (λ (row : List ℕ). Contains row w) (row_is v lt) h in
            let (has, below) = of_filter (λ (x : ℕ). nat_lt x g.modules) (imported g.pairs v) w there in
            (lt, ltb-true w g.modules below, row_leads g.pairs v w has)
        | inr le ↦ no_member w (subst (λ (row : List ℕ). Contains row w) (row_past v le) h)
      ]

  pub leads_in : (v w : ℕ) → v < g.modules → w < g.modules → Leads g.pairs v w → ImportsModule (rows_below g g.modules) v w
  leads_in v w lt below leads =
      subst (λ (row : List ℕ). Contains row w) (sym (row_is v lt))
      (in_filter (λ (x : ℕ). nat_lt x g.modules) (imported g.pairs v) w (lt-ltb w g.modules below) (leads_row g.pairs v w leads))

filter_short : {X : Type 0} (p : X → Bool) (xs : List X) → length (filter p xs) ≤ length xs
filter_short p xs = let e = length-filter p xs in let l = count_by-le-length p xs in omega arith

row_short : (g : ImportGraph) (v : ℕ) → length (tree_imports g v) ≤ length g.pairs
row_short g v =
    let a = filter_short (λ (w : ℕ). nat_lt w g.modules) (imported g.pairs v) in
    let b = length-map (filter (λ (p : Edge). p.from == v) g.pairs) (λ (p : Edge). p.to) in
    let c = filter_short (λ (p : Edge). p.from == v) g.pairs in
    omega arith

-- the modules of a tree are a graph for a board
pub board_is_graph : (g : ImportGraph) → IsImportGraph g → IsGraph (modules_of g)
board_is_graph g is =
    let many = length-map-range_with_len (tree_imports g) 0 g.modules in
    let front = length-take-le g.modules g.names is.within in
    let few = is.few_modules in
    let pairs = is.few_pairs in
    record {
      size = omega arith;
      few = omega arith;
      short = λ v. elim (cases_lt v g.modules) [
        | inl lt ↦ let l = row_short g v in let e = ap length (row_is g v lt) in omega arith
        | inr le ↦ let e = ap length (row_past g v le) in omega arith
      ];
      within = λ v k d lt.
          let leads : ImportsModule (rows_below g g.modules) v _ = Contains-get_or (list_at (rows_below g g.modules) v) k d lt in
          let below = (leads_on g v _ leads).1 in
          omega arith;
    }
