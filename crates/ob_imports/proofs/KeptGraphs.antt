-- The properties of the graph of files that are within the limits.
use Rattle.std.proofs.Common.{◌≡◌, ℕ, ◌+◌, ◌<◌, ◌≤◌, List, [], length, get_or, Some, sym, ◌∙◌, ap, subst, arith, length-append}
use Rattle.std.specs.Prelude.{Contains, slice_get}
use Rattle.std.specs.List.{IsDistinct}
use Rattle.std.specs.Str.{bytes_eq}
use Rattle.std.proofs.lemmas.List.{get_or_append_left, length-map}
use Rattle.std.proofs.lemmas.Option.{get_or_from_slice_get, slice_get-get_or}
use Rattle.digraph.specs.Chains.{IsAcyclic}
use Rattle.ob_imports.specs.Files.{AreNodes, File, Imports, names_of}
use Rattle.ob_imports.specs.Graphs.{ImportGraph, IsGraph}
use Rattle.ob_imports.specs.Names.{LeadsBy}
use Rattle.ob_imports.specs.Outcomes.{AreFilesOfGraph}
use Rattle.digraph.specs.Edges.{Leads}
use Rattle.ob_imports.proofs.ByName.{acyclic_over, between_names}
use Rattle.digraph.proofs.Members.{in_map}
use Rattle.ob_imports.proofs.Nodes.{nodes_apart}
use Rattle.ob_imports.proofs.Places.{place_is}

-- from the indices of names to the names
pub acyclic_places : (files : List File) (names : List (List ℕ)) → IsAcyclic (Imports files) → IsAcyclic (LeadsBy (Imports files) names)
acyclic_places files names = acyclic_over (LeadsBy (Imports files) names) (Imports files) (λ v. get_or names v []) (λ v w (m, n, at_v, at_w, imports).
    let from : get_or names v [] ≡ m = get_or_from_slice_get names v m [] at_v in
    let to : get_or names w [] ≡ n = get_or_from_slice_get names w n [] at_w in
    subst (λ (x : List ℕ). Imports files x (get_or names w [])) (sym from) (subst (λ (y : List ℕ). Imports files m y) (sym to) imports))

-- a module that imports is one of the tree
of_tree : (files : List File) (names : List (List ℕ)) → IsDistinct bytes_eq names → AreNodes files names → (v : ℕ) (m n : List ℕ) → slice_get names v ≡ Some m → Imports files m n → v < length files
of_tree files names once nodes v m n at (f, has, is, imports) =
    let named = subst (Contains (names_of files)) is (in_map (λ (g : File). g.name) files f has) in
    let k = named.0 in
    let within : k < length (names_of files) = named.1 in
    let count : length (names_of files) ≡ length files = length-map files (λ g. g.name) in
    let long : length names ≡ length (names_of files) + length nodes.others = ap length nodes.whole ∙ length-append (names_of files) nodes.others in
    let here : get_or names k m ≡ m = ap (λ (ns : List (List ℕ)). get_or ns k m) nodes.whole ∙ get_or_append_left (names_of files) nodes.others m k within ∙ named.2 in
    let there : slice_get names k ≡ Some m = slice_get-get_or names k m (omega arith) ∙ ap (λ (x : List ℕ). Some x) here in
    let same : k ≡ v = sym (place_is names m k once there) ∙ place_is names m v once at in
    omega arith

pub kept_graph : (files : List File) (g : ImportGraph) → AreFilesOfGraph files g → IsAcyclic (Imports files) → IsGraph g
kept_graph files g kept none =
    let is = kept.is_graph in
    let once : IsDistinct bytes_eq g.names = nodes_apart files g.names kept.are_files.differ is.nodes in
    let count : length (names_of files) ≡ length files = length-map files (λ f. f.name) in
    let long : length g.names ≡ length (names_of files) + length is.nodes.others = ap length is.nodes.whole ∙ length-append (names_of files) is.nodes.others in
    let modules : g.modules ≡ length files = is.modules in
    let few : length files ≤ 4096 = kept.are_files.few_modules in
    record {
      apart = once;
      few_modules = omega arith;
      within = omega arith;
      few_names = kept.few_names;
      few_pairs = kept.few_pairs;
      between = between_names files g.names g.pairs is.leads;
      ascend = is.ascend;
      of_tree = λ p h. (
          let (m, n, at_from, _, imports) = (is.leads p.from p.to).0 h in
          let below : p.from < length files = of_tree files g.names once is.nodes p.from m n at_from imports in
          omega arith);
      acyclic = acyclic_over (Leads g.pairs) (LeadsBy (Imports files) g.names) (λ v. v) (λ v w. (is.leads v w).0) (acyclic_places files g.names none);
    }
