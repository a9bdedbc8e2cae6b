-- Files have an outcome: a graph, or a first error.
use Rattle.std.proofs.Common.{ℕ, ◌+◌, ◌-◌, ◌<◌, ◌≤◌, List, [], ◌++◌, length, get_or, Result, Ok, Err, refl, sym, ◌∙◌, arith, inl, inr, ◌⊎◌, map}
use Rattle.std.specs.Prelude.{Contains, ◌↔◌}
use Rattle.std.specs.List.{dedup, IsDistinct}
use Rattle.std.specs.Cmp.{IsTotalOrder, nat_cmp_total, on_total, then_total}
use Rattle.std.specs.Cmp.Lexicographic.{slice_cmp, nat_list_cmp_total, nat_list_eq_equiv}
use Rattle.std.specs.Ordering.{nat_cmp}
use Rattle.std.specs.Str.{bytes_eq}
use Rattle.std.proofs.lemmas.Bool.{cases_lt, false≢true}
use Rattle.std.proofs.lemmas.List.Kept.{IsStrictlySortedBy-dedup, Contains-dedup, Contains-from_dedup}
use Rattle.std.proofs.lemmas.List.Sorted.{Contains-permutation, IsPermutation-sym, length_permutation}
use Rattle.std.proofs.lemmas.Map.Keys.{IsDistinct-IsPermutation}
use Rattle.std.proofs.lemmas.Map.Text.{is_eq-slice_cmp}
use Rattle.std.proofs.lemmas.Slice.Eq.{bytes_eq-Decides}
use Rattle.digraph.specs.declared.edge.Edge.{Edge}
use Rattle.digraph.specs.Edges.{IsAscending, Leads}
use Rattle.digraph.proofs.EdgeOrder.{edges_ascend, edges_same, ends_cmp, ends_of, same_edge}
use Rattle.digraph.proofs.Names.{apart_ascend}
use Rattle.digraph.proofs.SameGraphs.{acyclic_as, names_as}
use Rattle.ob_imports.specs.Files.{AreNodes, File, Imports, IsNode, names_of, paths_of}
use Rattle.ob_imports.specs.Graphs.{ImportGraph, IsGraphOf}
use Rattle.ob_imports.specs.Names.{IsRepeat, AreAscending, IsFirstRepeat, LeadsBy}
use Rattle.ob_imports.specs.Numbering.{all_lacked, all_pairs}
use Rattle.ob_imports.specs.Outcomes.{AreFiles, AreFilesOfGraph, Cycle, GraphError, IsGraphOutcome, TooMany, TwoModules}
use Rattle.ob_imports.proofs.ByName.{acyclic_names, between_names}
use Rattle.ob_imports.proofs.Nodes.{are_nodes, nodes_apart, nodes_known, pairs_lead}
use Rattle.ob_imports.proofs.SameNames.{differ_unless_alike, is_two, many_paths}
use Rattle.ob_imports.proofs.SomeCycle.{found, acyclic_or_has_cycle}
use Rattle.ob_imports.proofs.Sortings.{sorting}

-- the outcome of files
abbrev Makes : List File → Type 0
Makes files = (o : Result ImportGraph GraphError) × IsGraphOutcome files o

---- sorted lists, each element once

names_at : (xs : List (List ℕ)) → (ys : List (List ℕ)) × AreAscending ys × ((n : List ℕ) → Contains ys n ↔ Contains xs n)
names_at xs =
    let (s, moved, sorted) = sorting (slice_cmp nat_cmp) nat_list_cmp_total xs in (
      dedup bytes_eq s,
      IsStrictlySortedBy-dedup nat_list_cmp_total (λ a b. sym (is_eq-slice_cmp a b)) s sorted,
      λ n. (
        λ h. Contains-permutation s xs n (IsPermutation-sym xs s moved) (Contains-from_dedup bytes_eq s n h),
        λ h. Contains-dedup nat_list_eq_equiv (λ a b e. (bytes_eq-Decides a b).0 e) s n (Contains-permutation xs s n moved h),
      ),
    )

edges_in_order : (xs : List Edge) → (ys : List Edge) × IsAscending ys × ((p : Edge) → Contains ys p ↔ Contains xs p)
edges_in_order xs =
    let total : IsTotalOrder (λ (p q : Edge). ends_cmp (ends_of p) (ends_of q)) = then_total (on_total (λ (p : Edge). p.from) nat_cmp_total) (on_total (λ (p : Edge). p.to) nat_cmp_total) in
    let (s, moved, sorted) = sorting (λ (p q : Edge). ends_cmp (ends_of p) (ends_of q)) total xs in
    (dedup same_edge s, edges_ascend s (dedup same_edge s) refl sorted, edges_same xs s (dedup same_edge s) refl moved)

first_repeat : (names : List (List ℕ)) → ((p : ℕ) × IsFirstRepeat names p) ⊎ ((k : ℕ) → k + 1 < length names → IsRepeat names k → ⊥)
first_repeat names = elim (found (λ k. bytes_eq (get_or names k []) (get_or names (k + 1) [])) (length names - 1)) [
  | inl (p, h) ↦ inl (
    p,
    record {
      within = (let l = h.within in omega arith);
      alike = (bytes_eq-Decides (get_or names p []) (get_or names (p + 1) [])).0 h.passes;
      first = λ j l alike. false≢true (sym (h.first j l) ∙ (bytes_eq-Decides (get_or names j []) (get_or names (j + 1) [])).1 alike);
    },
  )
  | inr none ↦ inr (λ k l alike. false≢true (sym (none k (omega arith)) ∙ (bytes_eq-Decides (get_or names k []) (get_or names (k + 1) [])).1 alike))
]

-- ---- step by step

of_graph : (files : List File) (g : ImportGraph) → AreFilesOfGraph files g → Makes files
of_graph files g kept =
    let nodes = kept.is_graph.nodes in
    let (order, moved, sorted) = sorting (slice_cmp nat_cmp) nat_list_cmp_total g.names in
    let apart : IsDistinct bytes_eq order = IsDistinct-IsPermutation bytes_eq nat_list_eq_equiv.symm g.names order moved (nodes_apart files g.names kept.are_files.differ nodes) in
    let known : (n : List ℕ) → IsNode files n → Contains order n = λ n node. Contains-permutation g.names order n moved (nodes_known files g.names nodes n node) in
    let edges = all_pairs order files in
    let lead : (v w : ℕ) → Leads edges v w ↔ LeadsBy (Imports files) order v w = pairs_lead order files apart known in
    elim (acyclic_or_has_cycle edges (length order) (between_names files order edges lead)) [
      | inl none ↦ (Ok g, (kept, acyclic_names files order known (acyclic_as (Leads edges) (LeadsBy (Imports files) order) lead none)))
      | inr (cycle, named) ↦ (
        Err (Cycle (map (λ r. get_or order r []) cycle)),
        record {
          graph = g;
          kept = kept;
          is_cycle = record { order = order; same = moved; ascend = apart_ascend order sorted apart; cycle = cycle; is_cycle = names_as (Leads edges) (LeadsBy (Imports files) order) lead cycle named; are_names = refl };
        },
      )
    ]

of_nodes : (files : List File) (names : List (List ℕ)) → AreFiles files → AreNodes files names → length names ≤ 8192 → Makes files
of_nodes files names are nodes few =
    let lead = pairs_lead names files (nodes_apart files names are.differ nodes) (nodes_known files names nodes) in
    let (pairs, up, same) = edges_in_order (all_pairs names files) in
    let g : ImportGraph = record { names = names; modules = length files; pairs = pairs } in
    let leads : (v w : ℕ) → Leads pairs v w ↔ LeadsBy (Imports files) names v w =
    λ v w. (λ h. (lead v w).0 ((same (record { from = v; to = w })).0 h), λ h. (same (record { from = v; to = w })).1 ((lead v w).1 h)) in
    let is_graph : IsGraphOf files g = record { nodes = nodes; modules = refl; ascend = up; leads = leads } in
    elim (cases_lt 65536 (length pairs)) [
      | inl many ↦ (Err TooMany, inr (inr (record { are_files = are; graph = g; is_graph = is_graph; few_names = few; many = many })))
      | inr few_pairs ↦ of_graph files g (record { are_files = are; is_graph = is_graph; few_names = few; few_pairs = few_pairs })
    ]

module_name_table : (files : List File) → AreFiles files → Makes files
module_name_table files are =
    let (others, up, same) = names_at (all_lacked (names_of files) files) in
    let names = names_of files ++ others in
    let nodes : AreNodes files names = are_nodes files (names_of files) (all_lacked (names_of files) files) others refl refl up same names refl in
    elim (cases_lt 8192 (length names)) [
      | inl many ↦ (Err TooMany, inr (inl (record { are_files = are; names = names; nodes = nodes; many = many })))
      | inr few ↦ of_nodes files names are nodes few
    ]

of_few : (files : List File) → length files ≤ 4096 → Makes files
of_few files few =
    let (names, moved, sorted) = sorting (slice_cmp nat_cmp) nat_list_cmp_total (names_of files) in
    elim (first_repeat names) [
      | inl (p, first) ↦
          let (paths, paths_moved, paths_sorted) = sorting (slice_cmp nat_cmp) nat_list_cmp_total (paths_of files (get_or names p [])) in
          let many = many_paths files names p moved first in
          let same = length_permutation (paths_of files (get_or names p [])) paths paths_moved in
          let two : 2 ≤ length paths = omega arith in
          (Err (TwoModules (get_or names p []) (get_or paths 0 []) (get_or paths 1 [])), is_two files names paths p few moved sorted first paths_moved paths_sorted two)
      | inr apart ↦ module_name_table files (record { few_modules = few; differ = differ_unless_alike files names moved sorted apart })
    ]

pub outcome_exists : (files : List File) → (o : Result ImportGraph GraphError) × IsGraphOutcome files o
outcome_exists files = elim (cases_lt 4096 (length files)) [
  | inl many ↦ (Err TooMany, inl many)
  | inr few ↦ of_few files few
]
