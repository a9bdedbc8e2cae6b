-- The modules that a module of a tree reaches are among all modules of the tree, with all that they import of them.
use Rattle.std.proofs.Common.{◌≡◌, ◌+◌, ℕ, zero, suc, Bool, true, false, List, [], ◌∷◌, ◌++◌, length, map, None, Some, Ordering, refl, sym, ap, ◌∙◌, subst, arith, inl, inr}
use Rattle.std.specs.Prelude.{Box, Contains, IsPermutation, find, position, slice_get}
use Rattle.std.specs.declared.alloc.Global.{Global}
use Rattle.std.specs.List.{position_or_len}
use Rattle.std.specs.Option.{option_map}
use Rattle.std.specs.Str.{bytes_eq}
use Rattle.std.specs.Arc.{arc_value}
use Rattle.std.specs.declared.sync.Arc.{Arc}
use Rattle.std.specs.Cmp.Lexicographic.{slice_cmp, nat_list_cmp_total, nat_list_eq_equiv}
use Rattle.std.specs.List.{IsDistinct}
use Rattle.std.specs.List.Sorted.{IsSortedBy}
use Rattle.std.specs.Ordering.{is_lt, nat_cmp, ordering_reverse}
use Rattle.std.specs.declared.cmp.Ordering.TheVariants.{Less, Equal, Greater}
use Rattle.std.proofs.lemmas.List.{get_or-map, length-map}
use Rattle.std.proofs.lemmas.List.Sorted.{Contains-permutation, IsPermutation-map, IsPermutation-sym}
use Rattle.std.proofs.lemmas.Map.Keys.{IsDistinct-IsPermutation}
use Rattle.std.proofs.lemmas.Bool.{cases_Bool, cases_lt, false≢true, lt-ltb}
use Rattle.std.proofs.lemmas.List.Sums.{fails_before_first}
use Rattle.std.proofs.lemmas.Option.{get_or_from_slice_get, none-some, slice_get_within, IfSome_then}
use Rattle.std.proofs.lemmas.Slice.Eq.{bytes_eq-Decides}
use Rattle.digraph.specs.Chains.{IsChain}
use Rattle.digraph.proofs.Members.{first_member, from_map, in_map, later_member}
use Rattle.ob_imports.specs.Files.{names_of, Imports}
use Rattle.ob_imports.specs.Graphs.{ImportGraph}
use Rattle.ob_interface.specs.Interfaces.{imported_of, Imported, ModuleInterface}
use Rattle.ob_interface.specs.Placed.{module_named}
use Rattle.module_table.specs.declared.rows.Import.{Import}
use Rattle.source_tree.specs.declared.parts.ModuleParts.{ModuleParts}
use Rattle.source_tree.specs.declared.source.Source.{Source}
use Rattle.ob_scan.specs.declared.token.Token.{Token}
use Rattle.ob_scan.specs.Texts.{text_at}
use Rattle.ob_view.specs.ModuleNumbers.{module_number_in}
use Rattle.ob_types.specs.Within.{AreWithin}
use Rattle.ob_view.proofs.Ascending.{found}
use Rattle.ob_types.proofs.Within.{placed}
use Rattle.module_table.proofs.Elements.{contains_slice, some_one}
use Rattle.ob_board.specs.PrecomputedChains.{AreAllByName, AreChainsOf, ServesModule}
use Rattle.ob_board.specs.declared.precomputed_chains.PrecomputedChains.{PrecomputedChains}
use Rattle.ob_board.specs.Entries.{interfaces_of}
use Rattle.ob_board.specs.SourceParts.{file_models, file_model_in, AreSourcesRead, IsSourceRead}
use Rattle.ob_board.specs.Reached.{file_of, files_of, interface_in, names, AreReachedInterfaces, ReachesName, FileModel}
use Rattle.ob_board.proofs.ByName.{apart_pairs, by_pairs}

-- ---- indices of modules by their names

-- each module is found by its name
leads : (modules : List ModuleInterface) (m : ModuleInterface) → Contains modules m → module_number_in modules m.name ≡ None → ⊥
leads modules m (k, lt, is) none =
    let test : ModuleInterface → Bool = λ x. bytes_eq x.name m.name in
    let place = position_or_len test modules in
    elim (cases_lt place (length modules)) [
      | inl within ↦ (let there : position test modules ≡ Some place = rw (lt-ltb place (length modules) within) refl in none-some place (sym none ∙ there))
      | inr past ↦ false≢true (sym (fails_before_first test modules k m (omega (arith, lt, past))) ∙ (bytes_eq-Decides _ m.name).1 (ap (λ (x : ModuleInterface). x.name) is))
    ]

-- ---- imports

-- a module imports the module that its alias denotes
named_import : (bytes : List ℕ) (ts : List Token) (alias name : List ℕ) (is : List Import)
    → option_map (λ (i : Imported). i.module_name) (find (λ (i : Imported). bytes_eq i.alias alias) (map (imported_of bytes ts) is)) ≡ Some name → Contains (map (λ (i : Import). text_at bytes ts i.imported) is) name
named_import bytes ts alias name [] e = absurd (none-some name e)
named_import bytes ts alias name (i ∷ is) e = elim (cases_Bool (bytes_eq (text_at bytes ts i.alias) alias)) [
  | inl here ↦ (let one : Some (text_at bytes ts i.imported) ≡ Some name = rw here at e in first_member _ (map (λ (x : Import). text_at bytes ts x.imported) is) name (some_one _ name one))
  | inr not ↦ later_member _ (map (λ (x : Import). text_at bytes ts x.imported) is) name (named_import bytes ts alias name is (rw not at e))
]

-- a chain with one edge more
chain_more : {N : Type 0} (H : N → N → Type 0) (m : N) (more : List N) (v w : N) → IsChain H m more v → H v w → IsChain H m (more ++ w ∷ []) w
chain_more H m [] v w chain edge = (subst (λ x. H x w) (sym chain) edge, refl)
chain_more H m (n ∷ more) v w chain edge = (chain.0, chain_more H n more v w chain.1 edge)

equal_to_itself : (name : List ℕ) → slice_cmp nat_cmp name name ≡ Equal
equal_to_itself name = at (slice_cmp nat_cmp name name) (nat_list_cmp_total.antisymm name name)
  where
    at : (o : Ordering) → o ≡ ordering_reverse o → o ≡ Equal
    at Less e = absurd (let bad : Less ≡ Greater = e in cc)
    at Equal e = refl
    at Greater e = absurd (let bad : Greater ≡ Less = e in cc)

module _ (files : List FileModel) (all : List ModuleInterface) (tree : AreAllByName (map interface_in files) all) where
  -- the name of each module is found at the module's index
  home_is : (k : ℕ) (m : ModuleInterface) → slice_get all k ≡ Some m → module_number_in all m.name ≡ Some k
  home_is k m at =
      found (λ (x : ModuleInterface). x.name) all m.name k tree.by_name (slice_get_within all k m at)
      (λ d. ap (λ (x : ModuleInterface). slice_cmp nat_cmp x.name m.name) (get_or_from_slice_get all k m d at) ∙ equal_to_itself m.name)

  -- a module reaches the imports of the modules that it reaches
  reaches_more : (own m n : List ℕ) → ReachesName files own m → Imports (files_of files) m n → ReachesName files own n
  reaches_more own m n (w, first, (more, chain)) imports = (w, first, (more ++ n ∷ [], chain_more (Imports (files_of files)) w more m n chain imports))

  module _ (own : List ℕ) (reached : List ModuleInterface) (output_is : AreReachedInterfaces files own reached) where
    among : (m : ModuleInterface) → Contains reached m → Contains all m
    among m has =
        let from = (output_is.exact m).0 has in
        Contains-permutation (map interface_in files) all m tree.same (subst (Contains (map interface_in files)) from.is (in_map interface_in files from.file from.is_of_tree))

    closed : (m : ModuleInterface) (alias name : List ℕ) (k : ℕ) → Contains reached m → module_named m alias ≡ Some name → module_number_in all name ≡ Some k → module_number_in reached name ≡ None → ⊥
    closed m alias name k has of there none =
        let from = (output_is.exact m).0 has in
        let file = from.file in
        let to = placed all name k there in
        let (other, from_tree_parts, is) = from_map interface_in files to.module_there
        (Contains-permutation all (map interface_in files) to.module_there (IsPermutation-sym (map interface_in files) all tree.same) (contains_slice all k to.module_there to.at)) in
        let named : names other 1 ≡ name = ap (λ (x : ModuleInterface). x.name) is ∙ to.named in
        let import = named_import file.bytes file.tokens alias name (file.rows).imports (subst (λ (x : ModuleInterface). module_named x alias ≡ Some name) (sym from.is) of) in
        let imports : Imports (files_of files) (names file 1) name = (file_of file, in_map file_of files file from.is_of_tree, refl, import) in
        let reach = subst (ReachesName files own) (sym named) (reaches_more own (names file 1) name from.is_reached imports) in
        let here : Contains reached (interface_in other) = (output_is.exact (interface_in other)).1 (record { file = other; is_of_tree = from_tree_parts; is_reached = reach; is = refl }) in
        leads reached (interface_in other) here (ap (module_number_in reached) named ∙ none)

    pub within_tree : AreWithin all reached
    within_tree = record { named = home_is; among = among; closed = closed }

-- the interfaces of all parts are those of the files
pub same_interfaces : (sources : List Source) (modules : List (Box ModuleParts Global)) → length modules ≡ length sources
    → ((k : ℕ) (s : Source) (m : Box ModuleParts Global) → slice_get sources k ≡ Some s → slice_get modules k ≡ Some m → IsSourceRead s m.value)
    → interfaces_of modules ≡ map interface_in (file_models sources modules)
same_interfaces [] [] many each = refl
same_interfaces [] (m ∷ modules) many each = absurd (omega (arith, many))
same_interfaces (s ∷ sources) [] many each = refl
same_interfaces (s ∷ sources) (m ∷ modules) many each =
    let here = (each zero s m refl refl).interface in
    let later = same_interfaces sources modules (omega (arith, many)) (λ k a b p q. each (suc k) a b p q) in
    ap (λ (i : ModuleInterface). i ∷ interfaces_of modules) here ∙ ap (λ (is : List ModuleInterface). interface_in (file_model_in s m.value) ∷ is) later

-- the precomputed results for all modules serve a module that reaches these
pub serves_among : (sources : List Source) (modules : List (Box ModuleParts Global)) (g : ImportGraph) → AreSourcesRead sources modules g → (own : List ℕ) (reached : List ModuleInterface)
    → AreReachedInterfaces (file_models sources modules) own reached → (precomputed_chains : PrecomputedChains) → AreChainsOf (interfaces_of modules) precomputed_chains → ServesModule reached precomputed_chains
serves_among sources modules g seen own reached output_is precomputed_chains is = record {
  by_name = output_is.by_name;
  within = IfSome_then precomputed_chains.precomputed is.precomputed (λ s all.
      within_tree (file_models sources modules) s.value (subst (λ (ms : List ModuleInterface). AreAllByName ms s.value) (same_interfaces sources modules seen.as_many seen.each) all) own reached output_is);
}

-- ---- all modules by name

pub mapped_sorted : {X Y : Type 0} (lt : Y → Y → Bool) (f : X → Y) (xs : List X) → IsSortedBy (λ a b. lt (f a) (f b)) xs → IsSortedBy lt (map f xs)
mapped_sorted lt f [] sorted k d low l = absurd (omega arith)
mapped_sorted lt f (x ∷ xs) sorted k d low l =
    let long = length-map (x ∷ xs) f in
    rw (get_or-map f (x ∷ xs) k x d (omega arith), get_or-map f (x ∷ xs) (k + 1) x d (omega arith)) (sorted k x low (omega arith))

named_so : (files : List FileModel) → map (λ (m : ModuleInterface). m.name) (map interface_in files) ≡ names_of (files_of files)
named_so [] = refl
named_so (file ∷ files) = ap (λ (ns : List (List ℕ)). names file 1 ∷ ns) (named_so files)

-- all modules of a tree, once they are sorted
pub all_by_name : (sources : List Source) (modules : List (Box ModuleParts Global)) (g : ImportGraph) → AreSourcesRead sources modules g → (before after : List (Arc ModuleInterface Global))
    → map arc_value before ≡ interfaces_of modules → IsPermutation before after → IsSortedBy (λ (a b : ModuleInterface). is_lt (slice_cmp nat_cmp a.name b.name)) (map arc_value after)
    → AreAllByName (interfaces_of modules) (map arc_value after)
all_by_name sources modules g seen before after output_is moved sorted =
    let name : ModuleInterface → List ℕ = λ m. m.name in
    let files = file_models sources modules in
    let same : IsPermutation (interfaces_of modules) (map arc_value after) = subst (λ (ms : List ModuleInterface). IsPermutation ms (map arc_value after)) output_is (IsPermutation-map arc_value before after moved) in
    let first : IsDistinct bytes_eq (map name (interfaces_of modules)) =
    subst (IsDistinct bytes_eq) (sym (ap (map name) (same_interfaces sources modules seen.as_many seen.each) ∙ named_so files)) seen.kept.are_files.differ in
    let apart = IsDistinct-IsPermutation bytes_eq nat_list_eq_equiv.symm (map name (interfaces_of modules)) (map name (map arc_value after)) (IsPermutation-map name (interfaces_of modules) (map arc_value after) same) first in
    record { same = same; by_name = by_pairs (map arc_value after) (apart_pairs name (map arc_value after) sorted apart) }
