-- Where a module of a tree uses another module, and how often.
use Rattle.std.proofs.Common.{◌≡◌, ℕ, zero, suc, ◌+◌, ◌<◌, ◌≤◌, List, [], ◌∷◌, ◌++◌, length, get_or, take, Some, None, Ok, refl, sym, ap, ◌∙◌, subst, inl, inr, arith}
use Rattle.std.specs.Prelude.{Contains, slice_get}
use Rattle.std.specs.Str.{bytes_eq}
use Rattle.std.proofs.lemmas.Bool.{false≢true}
use Rattle.std.proofs.lemmas.List.{length-map, take_more}
use Rattle.std.proofs.lemmas.List.Elements.{Contains-append_cases}
use Rattle.std.proofs.lemmas.List.Quantifiers.{position-Some}
use Rattle.std.proofs.lemmas.Option.{get_or_from_slice_get, slice_get-get_or, slice_get_within}
use Rattle.std.proofs.lemmas.Slice.Eq.{bytes_eq-Decides}
use Rattle.cut_net.specs.declared.priced.Priced.{Priced}
use Rattle.cut_net.specs.Network.{Network, name_of}
use Rattle.digraph.proofs.Members.{from_map, in_map}
use Rattle.table_rules.specs.Declaring.{rows_of}
use Rattle.module_table.specs.Parts.{Rows}
use Rattle.ob_imports.specs.Files.{DifferInName, File, IsNode, names_of}
use Rattle.ob_imports.specs.Graphs.{ImportGraph}
use Rattle.ob_imports.specs.Names.{index_in}
use Rattle.ob_imports.specs.Outcomes.{AreFilesOfGraph}
use Rattle.ob_imports.proofs.Nodes.{nodes_known}
use Rattle.ob_imports.proofs.Places.{place_found, place_is}
use Rattle.ob_grammar.specs.Parsed.{IsTheTree}
use Rattle.ob_scan.proofs.Outcomes.{spelled_once}
use Rattle.ob_scan.specs.declared.token.Token.{Token}
use Rattle.ob_scan.specs.Spelling.{IsOutcome}
use Rattle.ob_scan.specs.Texts.{text_at}
use Rattle.ob_scope.specs.declared.crossing_uses.Crossing.{Crossing}
use Rattle.scopes.specs.QualifiedUses.{Crosses, HasWeight}
use Rattle.ob_scope.specs.Crossings.{AreCrossings}
use Rattle.scopes.specs.Scoped.{AreScopes, ModuleScopes}
use Rattle.scopes.proofs.Counting.{counts-once}
use Rattle.ob_scope.proofs.ImportUses.{crossings_weigh}
use Rattle.ob_tree.specs.declared.declaration.Module.{Module}
use Rattle.source_tree.specs.Crossings.{AreSpans, AreUseSpans, AreUses, AreImportUses, AreUsesInFile, IsNoModule, IsNoNode, IsSpan}
use Rattle.source_tree.specs.TreeReading.{AreScopesOf, IsTreeOf}
use Rattle.source_tree.specs.Trees.{file_of, files_of, names, rows, IsAccepted, IsFileFault, IsNetOfTree, IsTree, IsTreeFault, ModuleFile}
use Rattle.source_tree.specs.declared.crossing.ImportUses.{ImportUses}
use Rattle.source_tree.specs.declared.crossing.ImportUses.TheVariants.{Places, NoImporter, NoImported}
use Rattle.source_tree.specs.declared.crossing.Span.{Span}
use Rattle.source_tree.specs.declared.source.Source.{Source}
use Rattle.source_tree.specs.declared.tree_fault.TreeFault.{TreeFault}
use Rattle.source_tree.specs.declared.tree_reading.ScopedTree.{ScopedTree}
use Rattle.source_tree.proofs.SameFiles.{import_over, one_rows}
use Rattle.source_tree.proofs.ReadFiles.{first_fault, of_tree}
use Rattle.source_tree.proofs.TreeFiles.{there}
use Rattle.source_tree.proofs.TreeNet.{at_left, member_at, index_or_len, same_at}

---- ranges of crossings

spans_more : (bytes : List ℕ) (ts : List Token) (cs : List Crossing) (spans : List Span) (c : Crossing) (span : Span) → AreSpans bytes ts cs spans → IsSpan bytes ts c span → AreSpans bytes ts (cs ++ c ∷ []) (spans ++ span ∷ [])
spans_more bytes ts [] [] c span all one = (one, tt)
spans_more bytes ts [] (x ∷ spans) c span all one = absurd all
spans_more bytes ts (d ∷ cs) [] c span all one = absurd all
spans_more bytes ts (d ∷ cs) (x ∷ spans) c span all one = (all.0, spans_more bytes ts cs spans c span all.1 one)

pub spans_next : (bytes : List ℕ) (ts : List Token) (cs : List Crossing) (i : ℕ) (d : Crossing) (spans : List Span) (span : Span) → i < length cs → AreSpans bytes ts (take i cs) spans → IsSpan bytes ts (get_or cs i d) span → AreSpans bytes ts (take (i + 1) cs) (spans ++ span ∷ [])
spans_next bytes ts cs i d spans span within all one = rw (take_more cs i d within) (spans_more bytes ts (take i cs) spans (get_or cs i d) span all one)

pub spans_as_many : (bytes : List ℕ) (ts : List Token) (cs : List Crossing) (spans : List Span) → AreSpans bytes ts cs spans → length spans ≡ length cs
spans_as_many bytes ts [] [] all = refl
spans_as_many bytes ts [] (x ∷ spans) all = absurd all
spans_as_many bytes ts (c ∷ cs) [] all = absurd all
spans_as_many bytes ts (c ∷ cs) (x ∷ spans) all = ap suc (spans_as_many bytes ts cs spans all.1)

-- ---- one file

-- a result for one reading of a file holds for each reading
module _ (source : Source) (ts : List Token) (m : Module) (reads : IsOutcome source.bytes.items (Ok ts)) (tree : IsTheTree source.bytes.items ts m) (s : ModuleScopes) (n : List ℕ) where
  pub places_by : (r : Rows) (cs : List Crossing) (spans : List Span) → r ≡ rows_of m
      → ((bytes : List ℕ) (us : List Token) → AreScopes bytes us r s → AreCrossings (text_at bytes us) r n r.uses cs)
      → AreSpans source.bytes.items ts cs spans → (file : ModuleFile) → IsAccepted source file → AreScopesOf file s → AreUseSpans file n spans
  places_by r cs spans is crosses all file accepted scoped =
      let spells = accepted.reads.1 in
      let bytes : file.bytes ≡ source.bytes.items = accepted.bytes_are in
      let tokens : ts ≡ file.tokens = spelled_once file.bytes ts file.tokens (subst (λ (bs : List ℕ). IsOutcome bs (Ok ts)) (sym bytes) reads).1 spells in
      let here : rows_of m ≡ rows file = one_rows file.bytes ts file.tokens m file.tree (subst (λ (bs : List ℕ). IsOutcome bs (Ok ts)) (sym bytes) reads).1 spells tree.tree.derived accepted.is_tree.tree.derived in
      let found = crosses file.bytes file.tokens (subst (λ (x : Rows). AreScopes file.bytes file.tokens x s) (sym (is ∙ here)) scoped) in
      record {
        crossings = cs;
        are_crossings = subst (λ (x : Rows). AreCrossings (names file) x n x.uses cs) (is ∙ here) found;
        are_spans = subst (λ (us : List Token). AreSpans file.bytes us cs spans) tokens (subst (λ (bs : List ℕ). AreSpans bs ts cs spans) (sym bytes) all);
      }

-- ---- names of modules

own_names : (fs : List ModuleFile) (v : ℕ) (file : ModuleFile) → slice_get fs v ≡ Some file → slice_get (names_of (files_of fs)) v ≡ Some (names file 1)
own_names [] v file e = absurd (let f : None ≡ Some file = e in cc)
own_names (f ∷ fs) zero file e = let same : f ≡ file = cc in ap (λ (x : ModuleFile). Some (names x 1)) same
own_names (f ∷ fs) (suc v) file e = own_names fs v file e

module _ (files : List ModuleFile) (g : ImportGraph) (kept : AreFilesOfGraph (files_of files) g) where
  modules_are : g.modules ≡ length files
  modules_are = kept.is_graph.modules ∙ length-map files file_of

  own_at : (v : ℕ) (file : ModuleFile) → slice_get files v ≡ Some file → slice_get g.names v ≡ Some (names file 1)
  own_at v file at = subst (λ (ns : List (List ℕ)). slice_get ns v ≡ Some (names file 1)) (sym kept.is_graph.nodes.whole)
      (at_left (names_of (files_of files)) kept.is_graph.nodes.others v (names file 1) (own_names files v file at))

  -- the file of a module's number
  pub file_at : (v : ℕ) (name : List ℕ) → Some v ≡ index_in g.names name → v < g.modules → (file : ModuleFile) × (slice_get files v ≡ Some file) × (names file 1 ≡ name)
  file_at v name e within =
      let many = modules_are in
      let (file, at) = there files v (omega arith) in
      let found = position-Some (bytes_eq name) g.names v [] (sym e) in
      let is : get_or g.names v [] ≡ names file 1 = get_or_from_slice_get g.names v (names file 1) [] (own_at v file at) in
      (file, at, sym ((bytes_eq-Decides name (get_or g.names v [])).0 found.1 ∙ is))

  -- a name that no module has
  pub no_node : (name : List ℕ) → None ≡ index_in g.names name → IsNode (files_of files) name → ⊥
  no_node name e node = let found = place_found g.names name (nodes_known (files_of files) g.names kept.is_graph.nodes name node) in let bad : None ≡ Some (Rattle.ob_imports.specs.Numbering.index_or_len g.names name) = e ∙ found in absurd cc

  pub no_module : (name : List ℕ) → None ≡ index_in g.names name → Contains (names_of (files_of files)) name → ⊥
  no_module name e has = no_node name e (inl has)

  -- nor a module of the tree
  pub not_own : (v : ℕ) (name : List ℕ) → Some v ≡ index_in g.names name → g.modules ≤ v → Contains (names_of (files_of files)) name → ⊥
  not_own v name e past has =
      let (f, has_f, same_f) = from_map (λ (f : File). f.name) (files_of files) name has in
      let (file, has_file, is) = from_map file_of files f has_f in
      let (w, at) = index_or_len files file has_file in
      let within = slice_get_within files w file at in
      let many = modules_are in
      let found = position-Some (bytes_eq name) g.names v [] (sym e) in
      let not_it = found.2 w (omega arith) in
      let own : get_or g.names w [] ≡ names file 1 = get_or_from_slice_get g.names w (names file 1) [] (own_at w file at) in
      let module_name_token : names file 1 ≡ name = ap (λ (h : File). h.name) is ∙ same_f in
      false≢true (sym not_it ∙ (bytes_eq-Decides name (get_or g.names w [])).1 (sym (own ∙ module_name_token)))

  -- a module with a number
  pub is_node : (v : ℕ) (name : List ℕ) → Some v ≡ index_in g.names name → IsNode (files_of files) name
  is_node v name e =
      let found = position-Some (bytes_eq name) g.names v [] (sym e) in
      let is : get_or g.names v [] ≡ name = sym ((bytes_eq-Decides name (get_or g.names v [])).0 found.1) in
      let has : Contains g.names name = member_at g.names v name (slice_get-get_or g.names v [] found.0 ∙ ap (λ (n : List ℕ). Some n) is) in
      let nodes = kept.is_graph.nodes in
      elim (Contains-append_cases (names_of (files_of files)) nodes.others name (subst (λ (ns : List (List ℕ)). Contains ns name) nodes.whole has)) [
        | inl own ↦ inl own
        | inr other ↦ inr ((nodes.external name).0 other).0
      ]

-- ---- a tree

tree_is : (sources : List Source) (tree : ScopedTree) (of : IsTreeOf sources tree) → IsTree sources of.files
tree_is sources tree of = record { accepted = of.read.accepted; graph = tree.graph; kept = of.kept; acyclic = of.acyclic }

module _ (sources : List Source) (tree : ScopedTree) (of : IsTreeOf sources tree) (m n : List ℕ) where
  pub crossed_no_importer : ((files : List ModuleFile) → AreFilesOfGraph (files_of files) tree.graph → Contains (names_of (files_of files)) m → ⊥) → IsNoModule sources m
  crossed_no_importer none = record { files = of.files; is_tree = tree_is sources tree of; absent = none of.files of.kept }

  find_importer : (v : ℕ) → ((files : List ModuleFile) → AreFilesOfGraph (files_of files) tree.graph → (file : ModuleFile) × (slice_get files v ≡ Some file) × (names file 1 ≡ m)) → (file : ModuleFile) × (slice_get of.files v ≡ Some file) × (names file 1 ≡ m)
  find_importer v found = found of.files of.kept

  pub crossed_no_imported : (v : ℕ) → ((files : List ModuleFile) → AreFilesOfGraph (files_of files) tree.graph → (file : ModuleFile) × (slice_get files v ≡ Some file) × (names file 1 ≡ m))
      → None ≡ index_in tree.graph.names n → IsNoNode sources m n
  crossed_no_imported v found e =
      let (file, at, named) = find_importer v found in
      record {
        files = of.files;
        is_tree = tree_is sources tree of;
        present = subst (λ (x : List ℕ). Contains (names_of (files_of of.files)) x) named (in_map (λ (f : File). f.name) (files_of of.files) (file_of file) (in_map file_of of.files file (member_at of.files v file at)));
        absent = no_node of.files tree.graph of.kept n e;
      }

  -- the file and its scopes at a module's number
  pub within_sources : (v : ℕ) → ((files : List ModuleFile) → AreFilesOfGraph (files_of files) tree.graph → (file : ModuleFile) × (slice_get files v ≡ Some file) × (names file 1 ≡ m)) → v < length sources
  within_sources v found =
      let (file, at, named) = find_importer v found in
      let within = slice_get_within of.files v file at in
      let many = of.read.accepted.as_many in
      omega arith

  pub within_scopes : (v : ℕ) → ((files : List ModuleFile) → AreFilesOfGraph (files_of files) tree.graph → (file : ModuleFile) × (slice_get files v ≡ Some file) × (names file 1 ≡ m)) → v < length tree.scopes.items
  within_scopes v found =
      let (file, at, named) = find_importer v found in
      let within = slice_get_within of.files v file at in
      let many = of.read.as_many in
      omega arith

  pub crossed_at : (v w : ℕ) (source : Source) (s : ModuleScopes) (crossed : ImportUses) → ((files : List ModuleFile) → AreFilesOfGraph (files_of files) tree.graph → (file : ModuleFile) × (slice_get files v ≡ Some file) × (names file 1 ≡ m))
      → Some w ≡ index_in tree.graph.names n → slice_get sources v ≡ Some source → slice_get tree.scopes.items v ≡ Some s → AreUsesInFile source s n crossed → AreImportUses sources m n crossed
  crossed_at v w source s (Places path spans) found node at_source at_scopes (same_path, places) =
      let (file, at, named) = find_importer v found in
      let accepted = of.read.accepted.each v source file at_source at in
      record {
        files = of.files;
        is_tree = tree_is sources tree of;
        importer = file;
        is_of_tree = member_at of.files v file at;
        named = named;
        path_is = same_path ∙ sym accepted.path_is;
        known = is_node of.files tree.graph of.kept w n node;
        places = places file accepted (of.read.each v file s at at_scopes);
      }
  crossed_at v w source s NoImporter found node at_source at_scopes h = absurd h
  crossed_at v w source s NoImported found node at_source at_scopes h = absurd h

  -- the files before one are accepted as all are
  take_there : {X : Type 0} (i j : ℕ) (xs : List X) (x : X) → slice_get (take i xs) j ≡ Some x → slice_get xs j ≡ Some x
  take_there zero j xs x e = absurd (let f : None ≡ Some x = e in cc)
  take_there (suc i) j [] x e = absurd (let f : None ≡ Some x = e in cc)
  take_there (suc i) zero (y ∷ xs) x e = e
  take_there (suc i) (suc j) (y ∷ xs) x e = take_there i j xs x e

  take_lengths : {X Y : Type 0} (i : ℕ) (xs : List X) (ys : List Y) → length xs ≡ length ys → length (take i xs) ≡ length (take i ys)
  take_lengths zero xs ys e = refl
  take_lengths (suc i) [] [] e = refl
  take_lengths (suc i) [] (y ∷ ys) e = absurd (omega arith)
  take_lengths (suc i) (x ∷ xs) [] e = absurd (omega arith)
  take_lengths (suc i) (x ∷ xs) (y ∷ ys) e = ap suc (take_lengths i xs ys (omega arith))

  pub crossed_fault : (v : ℕ) (source : Source) (fault : TreeFault) → v < length sources → source ≡ get_or sources v source → IsFileFault source fault → IsTreeFault sources fault
  crossed_fault v source fault within is h = of_tree sources fault (first_fault sources v source (take v of.files) fault within is
      (record {
        as_many = take_lengths v of.files sources of.read.accepted.as_many;
        each = λ i x file at_source at. of.read.accepted.each i x file (take_there v i sources x at_source) (take_there v i of.files file at);
      })
      h)

-- ---- how often

-- the files of a tree differ in the names of their modules
one_importer : (files : List ModuleFile) (f g : ModuleFile) (m : List ℕ) → DifferInName (files_of files) → Contains files f → Contains files g → names f 1 ≡ m → names g 1 ≡ m → f ≡ g
one_importer files f g m differ has_f has_g is_f is_g =
    let (v, at_f) = index_or_len files f has_f in
    let (w, at_g) = index_or_len files g has_g in
    let here = place_is (names_of (files_of files)) m v differ (own_names files v f at_f ∙ ap (λ (n : List ℕ). Some n) is_f) in
    let there = place_is (names_of (files_of files)) m w differ (own_names files w g at_g ∙ ap (λ (n : List ℕ). Some n) is_g) in
    same_at files v f g at_f (ap (slice_get files) (sym here ∙ there) ∙ at_g)

pub weight_is_use_count : (sources : List Source) (net : Network) (path : List ℕ) (spans : List Span) (i : Priced) → IsNetOfTree sources net → Contains net.imports i
    → AreUses sources (name_of net i.from) (name_of net i.to) path spans → i.amount ≡ length spans
weight_is_use_count sources net path spans i is has u =
    let m = name_of net i.from in
    let n = name_of net i.to in
    let ends = is.between i has in
    let h = import_over sources is.files u.files is.is_tree.accepted u.is_tree.accepted m n i.amount ((is.listed i ends.0 ends.1).0 has) in
    let same : h.importer ≡ u.importer = one_importer u.files h.importer u.importer m u.is_tree.kept.are_files.differ h.is_of_tree u.is_of_tree h.named u.named in
    let weight : HasWeight (names u.importer) (rows u.importer) n i.amount = subst (λ (f : ModuleFile). HasWeight (names f) (rows f) n i.amount) same h.weight in
    let counted : HasWeight (names u.importer) (rows u.importer) n (length u.places.crossings) = crossings_weigh (names u.importer) (rows u.importer) n u.places.crossings u.places.are_crossings in
    counts-once (Crosses (names u.importer) (rows u.importer) n) (rows u.importer).uses i.amount (length u.places.crossings) weight counted
    ∙ sym (spans_as_many u.importer.bytes u.importer.tokens u.places.crossings spans u.places.are_spans)
