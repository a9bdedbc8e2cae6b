-- The network of a tree is that of its graph and its scopes.
use Rattle.std.proofs.Common.{◌≡◌, ℕ, zero, suc, ◌<◌, true, List, [], ◌∷◌, ◌++◌, length, get_or, map, Some, refl, sym, ap, ◌∙◌, subst, inl, inr, arith}
use Rattle.std.specs.Prelude.{◌↔◌, All, Contains, slice_get}
use Rattle.std.specs.Str.{bytes_eq}
use Rattle.std.proofs.lemmas.Bool.{cases_lt, false≢true}
use Rattle.std.proofs.lemmas.List.{get_or-map, get_or_default, length-map}
use Rattle.std.proofs.lemmas.List.Elements.{Contains-append_cases, Contains-append_left, Contains-append_right, Contains-get_or}
use Rattle.std.proofs.lemmas.Map.Keys.{apart_from_distinct}
use Rattle.std.proofs.lemmas.Option.{get_or_from_slice_get, slice_get-get_or, slice_get_within}
use Rattle.std.proofs.lemmas.Slice.Eq.{bytes_eq-Decides}
use Rattle.cut_net.specs.declared.priced.Priced.{Priced}
use Rattle.texts.specs.Fields.{is_name}
use Rattle.source_tree.specs.GraphNet.{graph_import, graph_lines, graph_weight, no_scopes, scopes_at}
use Rattle.cut_net.specs.Network.{Network, name_of}
use Rattle.cut_net.specs.NetText.{NetLine, Module, Import, AreMentioning, IsNetOf, Mentions}
use Rattle.source_tree.proofs.GraphLines.{import_of_line}
use Rattle.digraph.specs.declared.edge.Edge.{Edge}
use Rattle.digraph.specs.Chains.{IsAcyclic}
use Rattle.ob_imports.specs.Files.{DifferInName, File, Imports, IsNode, names_of}
use Rattle.ob_imports.specs.Graphs.{ImportGraph, IsGraph}
use Rattle.ob_imports.specs.Graphs as graphs
use Rattle.ob_imports.specs.Outcomes.{AreFilesOfGraph}
use Rattle.digraph.proofs.Members.{from_map, in_map}
use Rattle.ob_imports.proofs.Nodes.{nodes_known}
use Rattle.ob_scan.specs.declared.token.Token.{Token}
use Rattle.ob_scan.specs.Texts.{text_at}
use Rattle.scopes.specs.QualifiedUses.{HasWeight}
use Rattle.module_table.specs.Parts.{Rows}
use Rattle.module_table.specs.declared.rows.Import.{Import as Item}
use Rattle.scopes.specs.Scoped.{AreScopes, ModuleScopes}
use Rattle.scopes.specs.Weights.{uses_of_import}
use Rattle.ob_scope.proofs.Names.{same_test}
use Rattle.source_tree.specs.Trees.{file_of, files_of, rows, names, HasImport, IsNetOfTree, ModuleFile}
use Rattle.source_tree.specs.TreeReading.{AreFilesRead}
use Rattle.source_tree.specs.declared.source.Source.{Source}
use Rattle.source_tree.proofs.TreeFiles.{there}

-- ---- laws of the lower crates

abbrev pub WeightOfAliases : Type 0
WeightOfAliases = (bytes : List ℕ) (ts : List Token) (r : Rows) (s : ModuleScopes) (imported : List ℕ) →
    AreScopes bytes ts r s → HasWeight (text_at bytes ts) r imported (uses_of_import s.aliases imported)

abbrev pub OneWeight : Type 0
OneWeight = (name : ℕ → List ℕ) (r : Rows) (imported : List ℕ) (n m : ℕ) → HasWeight name r imported n → HasWeight name r imported m → n ≡ m

-- ---- members by their indices

pub member_at : {X : Type 0} (xs : List X) (i : ℕ) (x : X) → slice_get xs i ≡ Some x → Contains xs x
member_at xs i x e = (i, slice_get_within xs i x e, get_or_from_slice_get xs i x x e)

pub index_or_len : {X : Type 0} (xs : List X) (x : X) → Contains xs x → (i : ℕ) × (slice_get xs i ≡ Some x)
index_or_len xs x h = (h.0, slice_get-get_or xs h.0 x h.1 ∙ ap Some h.2)

pub at_left : {X : Type 0} (xs ys : List X) (i : ℕ) (x : X) → slice_get xs i ≡ Some x → slice_get (xs ++ ys) i ≡ Some x
at_left [] ys i x e = absurd cc
at_left (z ∷ xs) ys zero x e = e
at_left (z ∷ xs) ys (suc i) x e = at_left xs ys i x e

at_map : {X Y : Type 0} (f : X → Y) (xs : List X) (i : ℕ) (x : X) → slice_get xs i ≡ Some x → slice_get (map f xs) i ≡ Some (f x)
at_map f [] i x e = absurd cc
at_map {X} f (z ∷ xs) zero x e = let same : z ≡ x = cc in ap (λ (w : X). Some (f w)) same
at_map f (z ∷ xs) (suc i) x e = at_map f xs i x e

pub same_at : {X : Type 0} (xs : List X) (i : ℕ) (x y : X) → slice_get xs i ≡ Some x → slice_get xs i ≡ Some y → x ≡ y
same_at xs i x y p q = let s : Some x ≡ Some y = sym p ∙ q in cc

-- files with distinct module names are determined by the name
one_file : (fs : List File) (f h : File) → DifferInName fs → Contains fs f → Contains fs h → f.name ≡ h.name → f ≡ h
one_file fs f h differ (i, li, is_f) (j, lj, is_h) e = elim (cases_lt i j) [
  | inl less ↦ absurd (twice i j f h less lj is_f is_h e)
  | inr no_less ↦ elim (cases_lt j i) [
    | inl less ↦ absurd (twice j i h f less li is_h is_f (sym e))
    | inr same ↦
        let at : i ≡ j = omega arith in
        sym is_f ∙ ap (λ (k : ℕ). get_or fs k f) at ∙ get_or_default fs j f h lj ∙ is_h
  ]
]
  where
    twice : (i j : ℕ) (f h : File) → i < j → j < length fs → get_or fs i f ≡ f → get_or fs j h ≡ h → f.name ≡ h.name → ⊥
    twice i j f h less lj is_f is_h e =
        let long = length-map fs (λ (x : File). x.name) in
        let at_f : get_or (names_of fs) i [] ≡ f.name = get_or-map (λ (x : File). x.name) fs i f [] (omega arith) ∙ ap (λ (x : File). x.name) is_f in
        let at_h : get_or (names_of fs) j [] ≡ h.name = get_or-map (λ (x : File). x.name) fs j h [] lj ∙ ap (λ (x : File). x.name) is_h in
        false≢true (sym (apart_from_distinct bytes_eq (names_of fs) i j [] differ less (omega arith))
        ∙ (bytes_eq-Decides (get_or (names_of fs) i []) (get_or (names_of fs) j [])).1 (at_f ∙ e ∙ sym at_h))

module _ (sources : List Source) (files : List ModuleFile) (g : ImportGraph) (kept : AreFilesOfGraph (files_of files) g) where
  -- ---- nodes

  node_of : (n : List ℕ) → Contains g.names n → IsNode (files_of files) n
  node_of n has =
      let nodes = kept.is_graph.nodes in
      elim (Contains-append_cases (names_of (files_of files)) nodes.others n (subst (λ (ns : List (List ℕ)). Contains ns n) nodes.whole has)) [
        | inl own ↦ inl own
        | inr other ↦ inr ((nodes.external n).0 other).0
      ]

  -- the number of a file is that of its module
  name_there : (v : ℕ) (file : ModuleFile) → slice_get files v ≡ Some file → slice_get g.names v ≡ Some (names file 1)
  name_there v file at = subst (λ (ns : List (List ℕ)). slice_get ns v ≡ Some (names file 1)) (sym kept.is_graph.nodes.whole)
      (at_left (names_of (files_of files)) kept.is_graph.nodes.others v (names file 1) (at_map (λ (f : File). f.name) (files_of files) v (file_of file) (at_map file_of files v file at)))

  -- all module names are valid names
  module _ (ss : List ModuleScopes) (read : AreFilesRead sources files ss) where
    named_file : (file : ModuleFile) → Contains files file → (is_name (names file 1) ≡ true) × ((i : Item) → Contains (rows file).imports i → is_name (names file i.imported) ≡ true)
    named_file file has =
        let (v, at) = index_or_len files file has in
        let within = slice_get_within files v file at in
        let many = read.as_many in
        let (s, at_s) = there ss v (omega arith) in
        let all = (read.each v file s at at_s).named in (
          sym (same_test (names file 1)) ∙ all.own,
          λ i there. sym (same_test (names file i.imported)) ∙ all.imports i there,
        )

    named_node : (n : List ℕ) → IsNode (files_of files) n → is_name n ≡ true
    named_node n (inl own) =
        let (f, has, same) = from_map (λ (f : File). f.name) (files_of files) n own in
        let (file, has_file, is) = from_map file_of files f has in
        let name : names file 1 ≡ n = ap (λ (h : File). h.name) is ∙ same in
        subst (λ (x : List ℕ). is_name x ≡ true) name (named_file file has_file).0
    named_node n (inr (m, (f, has, named, imports))) =
        let (file, has_file, is) = from_map file_of files f has in
        let own : Contains (file_of file).imports n = subst (λ (h : File). Contains h.imports n) (sym is) imports in
        let (i, has_item, name) = from_map (λ (i : Item). names file i.imported) (rows file).imports n own in
        subst (λ (x : List ℕ). is_name x ≡ true) name ((named_file file has_file).1 i has_item)

    pub names_named : All (λ n. is_name n ≡ true) g.names
    names_named k d within = named_node (get_or g.names k d) (node_of (get_or g.names k d) (Contains-get_or g.names k d within))

  module _ (ss : List ModuleScopes) (read : AreFilesRead sources files ss) (weigh : WeightOfAliases) where
    -- the weight of an import of the graph is that of the importing file
    weight_there : (v : ℕ) (file : ModuleFile) (n : List ℕ) → slice_get files v ≡ Some file → HasWeight (names file) (rows file) n (uses_of_import (scopes_at ss v).aliases n)
    weight_there v file n at =
        let within = slice_get_within files v file at in
        let many = read.as_many in
        let (s, at_s) = there ss v (omega arith) in
        let is : scopes_at ss v ≡ s = get_or_from_slice_get ss v s no_scopes at_s in
        subst (λ (t : ModuleScopes). HasWeight (names file) (rows file) n (uses_of_import t.aliases n)) (sym is)
        (weigh file.bytes file.tokens (rows file) s n (read.each v file s at at_s))

    module _ (graph : IsGraph g) where
      -- an import of the graph is one of the files
      import_of_pair : (p : Edge) → Contains g.pairs p → HasImport files (graphs.name_of g p.from) (graphs.name_of g p.to) (graph_weight g ss p)
      import_of_pair p has =
          let (m, n, at_m, at_n, (f, in_files, is_m, imports)) = (kept.is_graph.leads p.from p.to).0 has in
          let many = length-map files file_of in
          let count = kept.is_graph.modules in
          let below = graph.of_tree p has in
          let (file, at) = there files p.from (omega arith) in
          let here = name_there p.from file at in
          let name : names file 1 ≡ m = same_at g.names p.from (names file 1) m here at_m in
          let same : f ≡ file_of file = one_file (files_of files) f (file_of file) kept.are_files.differ in_files (in_map file_of files file (member_at files p.from file at)) (is_m ∙ sym name) in
          let to : graphs.name_of g p.to ≡ n = get_or_from_slice_get g.names p.to n [] at_n in
          record {
            importer = file;
            is_of_tree = member_at files p.from file at;
            named = sym (get_or_from_slice_get g.names p.from (names file 1) [] here);
            imports = subst (Contains (file_of file).imports) (sym to) (subst (λ (h : File). Contains h.imports n) same imports);
            weight = weight_there p.from file (graphs.name_of g p.to) at;
          }

      has_line : NetLine → Type 0
      has_line (Module m) = ⊥
      has_line (Import m n w) = HasImport files m n w

      import_of_files : (m n : List ℕ) (w : ℕ) → Contains (graph_lines g ss) (Import m n w) → HasImport files m n w
      unfolding has_line
      import_of_files m n w line =
          let (p, has, is) = import_of_line g ss graph m n w line in
          subst has_line is (import_of_pair p has)

      -- an import of the files is one of the graph
      line_of_import : OneWeight → (m n : List ℕ) (w : ℕ) → HasImport files m n w → Contains (graph_lines g ss) (Import m n w)
      line_of_import once m n w h =
          let file = h.importer in
          let (v, at) = index_or_len files file h.is_of_tree in
          let here : slice_get g.names v ≡ Some m = name_there v file at ∙ ap Some h.named in
          let imports : Imports (files_of files) m n = (file_of file, in_map file_of files file h.is_of_tree, h.named, h.imports) in
          let (u, at_n) = index_or_len g.names n (nodes_known (files_of files) g.names kept.is_graph.nodes n (inr (m, imports))) in
          let has : Contains g.pairs (record { from = v; to = u }) = (kept.is_graph.leads v u).1 (m, n, here, at_n, imports) in
          let from : graphs.name_of g v ≡ m = get_or_from_slice_get g.names v m [] here in
          let to : graphs.name_of g u ≡ n = get_or_from_slice_get g.names u n [] at_n in
          let weight : uses_of_import (scopes_at ss v).aliases n ≡ w = once (names file) (rows file) n _ _ (weight_there v file n at) h.weight in
          let amount : graph_weight g ss (record { from = v; to = u }) ≡ w = ap (uses_of_import (scopes_at ss v).aliases) to ∙ weight in
          let line : graph_import g ss (record { from = v; to = u }) ≡ Import m n w = λ k. Import (from k) (to k) (amount k) in
          subst (Contains (graph_lines g ss)) line (Contains-append_right (map Module g.names) (map (graph_import g ss) g.pairs) (graph_import g ss (record { from = v; to = u })) (in_map (graph_import g ss) g.pairs (record { from = v; to = u }) has))

      -- a module that a line mentions is a node
      mentioned : (n : List ℕ) → AreMentioning (graph_lines g ss) n → Contains g.names n
      mentioned n (line, has, mentions) = elim (Contains-append_cases (map Module g.names) (map (graph_import g ss) g.pairs) line has) [
        | inl named ↦
            let (m, own, is) = from_map Module g.names line named in
            let same : m ≡ n = subst (Mentions n) (sym is) mentions in
            subst (Contains g.names) same own
        | inr imported ↦
            let (p, own, is) = from_map (graph_import g ss) g.pairs line imported in
            let between = graph.between p own in
            let ends : Mentions n (graph_import g ss p) = subst (Mentions n) (sym is) mentions in
            elim ends [
              | inl from ↦ subst (Contains g.names) from (Contains-get_or g.names p.from [] between.0)
              | inr to ↦ subst (Contains g.names) to (Contains-get_or g.names p.to [] between.1)
            ]
      ]

      -- the network has the names of the tree's modules and of those that they import
      pub named_of_tree : (net : Network) → IsNetOf (graph_lines g ss) net → (n : List ℕ) → Contains net.names n ↔ IsNode (files_of files) n
      named_of_tree net is n = (
        λ has. node_of n (mentioned n ((is.named n).0 has)),
        λ node. (is.named n).1 (Module n, Contains-append_left (map Module g.names) (map (graph_import g ss) g.pairs) (Module n) (in_map Module g.names n (nodes_known (files_of files) g.names kept.is_graph.nodes n node)), refl),
      )

      pub net_of_tree : OneWeight → IsAcyclic (Imports (files_of files)) → (net : Network) → IsNetOf (graph_lines g ss) net → IsNetOfTree sources net
      net_of_tree once acyclic net is = record {
        files = files;
        is_tree = record { accepted = read.accepted; graph = g; kept = kept; acyclic = acyclic };
        names_ascend = is.names_ascend;
        named = named_of_tree net is;
        between = is.between;
        imports_ascend = is.imports_ascend;
        listed = λ (i : Priced) from to. (
          λ has. import_of_files (name_of net i.from) (name_of net i.to) i.amount ((is.listed i from to).0 has),
          λ has. (is.listed i from to).1 (line_of_import once (name_of net i.from) (name_of net i.to) i.amount has),
        );
        no_pins = is.no_pins;
      }
