-- Paths of imports by numbers and by names.
use Rattle.std.proofs.Common.{◌≡◌, ◌<◌, ◌≤◌, ◌+◌, ℕ, List, [], ◌∷◌, length, get_or, Some, refl, sym, ap, ◌∙◌, subst, arith, length-append}
use Rattle.std.specs.Prelude.{Contains, ◌↔◌, slice_get, option_map}
use Rattle.std.proofs.lemmas.List.{get_or_append_left, length-map}
use Rattle.std.proofs.lemmas.Option.{get_or_from_slice_get, slice_get-get_or, slice_get-map, slice_get_within}
use Rattle.digraph.specs.Chains.{IsAcyclic as IsAcyclicBy, IsChain as IsChainBy}
use Rattle.digraph.specs.Edges.{Leads}
use Rattle.digraph.proofs.Members.{in_map}
use Rattle.ob_imports.specs.Files.{names_of, File, Imports}
use Rattle.ob_imports.specs.Graphs.{ImportGraph, IsGraphOf}
use Rattle.ob_imports.specs.Numbering.{index_or_len}
use Rattle.ob_imports.specs.Outcomes.{AreFilesOfGraph}
use Rattle.ob_imports.proofs.Places.{name_at, place_within}
use Rattle.work_board.specs.Graphs.{IsAcyclic, IsChain, ImportsModule, Reaches}
use Rattle.ob_board.specs.BoardGraphs.{rows_below}
use Rattle.ob_board.specs.Reached.{file_of, files_of, names, HasSameReach, ReachesName, FileModel}
use Rattle.ob_board.proofs.BoardRows.{leads_in, leads_on}

-- a path in the scheduler's graph is a path of imports
module _ {N : Type 0} (rows : List (List ℕ)) (H : N → N → Type 0) (to : ℕ → N) (invariants : (v w : ℕ) → ImportsModule rows v w → H (to v) (to w)) where
  chain_to : (v : ℕ) (more : List ℕ) (b : ℕ) → IsChain rows v more b → (list : List N) × IsChainBy H (to v) list (to b)
  chain_to v [] b leads = (to b ∷ [], (invariants v b leads, refl))
  chain_to v (w ∷ more) b chain = let rest = chain_to w more b chain.1 in (to w ∷ rest.0, (invariants v w chain.0, rest.1))

  pub reaches_to : (v b : ℕ) → Reaches rows v b → (n : N) × H (to v) n × ((list : List N) × IsChainBy H n list (to b))
  reaches_to v b ([], leads) = (to b, invariants v b leads, ([], refl))
  reaches_to v b (w ∷ more, chain) = (to w, invariants v w chain.0, chain_to w more b chain.1)

-- the scheduler's graph is acyclic
pub acyclic_board : (g : ImportGraph) → IsAcyclicBy (Leads g.pairs) → IsAcyclic (rows_below g g.modules)
acyclic_board g none v back =
    let (n, leads, chain) = reaches_to (rows_below g g.modules) (Leads g.pairs) (λ (x : ℕ). x) (λ x y h. (leads_on g x y h).2) v v back in
    none v n leads chain

module _ (files : List FileModel) (g : ImportGraph) (kept : AreFilesOfGraph (files_of files) g) where
  abbrev is_graph : IsGraphOf (files_of files) g
  is_graph = kept.is_graph

  pub as_many : g.modules ≡ length files
  as_many = is_graph.modules ∙ length-map files file_of

  abbrev from_files : List (List ℕ)
  from_files = names_of (files_of files)

  count : length from_files ≡ length files
  count = length-map (files_of files) (λ (f : File). f.name) ∙ length-map files file_of

  -- the names of the files are those of the first modules
  at_front : (v : ℕ) (n : List ℕ) → slice_get from_files v ≡ Some n → slice_get g.names v ≡ Some n
  at_front v n at =
      let lt = slice_get_within from_files v n at in
      let whole = is_graph.nodes.whole in
      let is : get_or g.names v n ≡ n = ap (λ (ns : List (List ℕ)). get_or ns v n) whole ∙ get_or_append_left from_files is_graph.nodes.others n v lt ∙ get_or_from_slice_get from_files v n n at in
      let long : length g.names ≡ length from_files + length is_graph.nodes.others = ap length whole ∙ length-append from_files is_graph.nodes.others in
      slice_get-get_or g.names v n (omega arith) ∙ ap (λ (x : List ℕ). Some x) is

  pub modules_within : g.modules ≤ length g.names
  modules_within =
      let many = as_many in
      let l = count in
      let long : length g.names ≡ length from_files + length is_graph.nodes.others = ap length is_graph.nodes.whole ∙ length-append from_files is_graph.nodes.others in
      omega arith

  pub name_of_file : (v : ℕ) (file : FileModel) → slice_get files v ≡ Some file → slice_get g.names v ≡ Some (names file 1)
  name_of_file v file at =
      at_front v (names file 1)
      (slice_get-map (λ (f : File). f.name) (files_of files) v ∙ ap (option_map (λ (f : File). f.name)) (slice_get-map file_of files v ∙ ap (option_map file_of) at))

  abbrev name : ℕ → List ℕ
  name v = get_or g.names v []

  imports_by : (v w : ℕ) → Leads g.pairs v w → Imports (files_of files) (name v) (name w)
  imports_by v w leads =
      let (m, n, at_v, at_w, imports) = (is_graph.leads v w).0 leads in
      let here : m ≡ name v = sym (get_or_from_slice_get g.names v m [] at_v) in
      let there : n ≡ name w = sym (get_or_from_slice_get g.names w n [] at_w) in
      subst (λ (x : List ℕ). Imports (files_of files) x (name w)) here (subst (λ (x : List ℕ). Imports (files_of files) m x) there imports)

  pub reaches_names : (v b : ℕ) → Reaches (rows_below g g.modules) v b → ReachesName files (name v) (name b)
  reaches_names v b reach = reaches_to (rows_below g g.modules) (Imports (files_of files)) name (λ x y h. imports_by x y (leads_on g x y h).2) v b reach

  -- a module that imports another is a module of the tree
  number : (m n : List ℕ) → Imports (files_of files) m n → (v : ℕ) × (v < g.modules) × (slice_get g.names v ≡ Some m)
  number m n (f, has, is, imports) =
      let there : Contains from_files m = subst (Contains from_files) is (in_map (λ (x : File). x.name) (files_of files) f has) in
      let lt : index_or_len from_files m < length from_files = place_within from_files m there in
      let many = as_many in
      let l = count in
      (index_or_len from_files m, omega arith, at_front (index_or_len from_files m) m (name_at from_files m there))

  -- a path by names between modules of the tree is a path by numbers
  reaches_back : (end : ℕ) (last : List ℕ) → end < g.modules → slice_get g.names end ≡ Some last → (more : List (List ℕ)) (v : ℕ) (m w : List ℕ) → v < g.modules → slice_get g.names v ≡ Some m
      → Imports (files_of files) m w → IsChainBy (Imports (files_of files)) w more last → Reaches (rows_below g g.modules) v end
  reaches_back end last below at_end [] v m w lt at imports same =
      ([], leads_in g v end lt below ((is_graph.leads v end).1 (m, last, at, at_end, subst (Imports (files_of files) m) same imports)))
  reaches_back end last below at_end (x ∷ more) v m w lt at imports chain =
      let (u, inside, at_u) = number w x chain.0 in
      let rest = reaches_back end last below at_end more u w x inside at_u chain.0 chain.1 in
      (u ∷ rest.0, (leads_in g v u lt inside ((is_graph.leads v u).1 (m, w, at, at_u, imports)), rest.1))

  pub reaches_numbers : (v b : ℕ) (m n : List ℕ) → v < g.modules → b < g.modules → slice_get g.names v ≡ Some m → slice_get g.names b ≡ Some n → ReachesName files m n → Reaches (rows_below g g.modules) v b
  reaches_numbers v b m n lt below at_v at_b (w, imports, (more, chain)) = reaches_back b n below at_b more v m w lt at_v imports chain

  reaches_as : (v b : ℕ) (m n : List ℕ) → v < g.modules → b < g.modules → slice_get g.names v ≡ Some m → slice_get g.names b ≡ Some n → Reaches (rows_below g g.modules) v b ↔ ReachesName files m n
  reaches_as v b m n lt below at_v at_b = (
    (λ reach.
        let here : name v ≡ m = get_or_from_slice_get g.names v m [] at_v in
        let there : name b ≡ n = get_or_from_slice_get g.names b n [] at_b in
        subst (λ (x : List ℕ). ReachesName files x n) here (subst (λ (x : List ℕ). ReachesName files (name v) x) there (reaches_names v b reach))),
    reaches_numbers v b m n lt below at_v at_b,
  )

  pub reaches_alike : HasSameReach files g
  reaches_alike v w m n at_v at_w =
      let many = as_many in
      let v_below = slice_get_within files v m at_v in
      let w_below = slice_get_within files w n at_w in
      reaches_as v w (names m 1) (names n 1) (omega arith) (omega arith) (name_of_file v m at_v) (name_of_file w n at_w)
