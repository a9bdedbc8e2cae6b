-- The input of a worker for a module.
use Rattle.std.proofs.Common.{◌≡◌, ℕ, ◌<◌, ◌≤◌, ◌^◌, List, [], length, Some, sym, ap, ◌∙◌, subst, arith}
use Rattle.std.specs.Prelude.{Contains, slice_get, slice_index_or, Box}
use Rattle.std.specs.Arc.{arc_value}
use Rattle.std.specs.declared.alloc.Global.{Global}
use Rattle.std.proofs.lemmas.List.{length-map}
use Rattle.std.proofs.lemmas.Option.{slice_get-get_or}
use Rattle.ob_imports.specs.Graphs.{ImportGraph}
use Rattle.ob_imports.specs.Outcomes.{AreFilesOfGraph}
use Rattle.ob_interface.specs.Interfaces.{ModuleInterface}
use Rattle.module_table.proofs.Elements.{contains_slice}
use Rattle.ob_scan.specs.Texts.{text_at}
use Rattle.source_tree.specs.declared.parts.ModuleParts.{ModuleParts}
use Rattle.source_tree.specs.declared.source.Source.{Source}
use Rattle.work_board.specs.Graphs.{list_at}
use Rattle.board_workers.specs.Parts.{IsJob}
use Rattle.ob_board.specs.PrecomputedChains.{AreChainsOf, ServesModule}
use Rattle.ob_board.specs.declared.precomputed_chains.PrecomputedChains.{PrecomputedChains}
use Rattle.ob_board.specs.BoardGraphs.{modules_of}
use Rattle.ob_board.specs.Reached.{file_of, files_of, interface_in, names, AreReachedInterfaces, HasSameReach, FileModel}
use Rattle.ob_board.specs.SourceParts.{file_models, file_model_in, AreSourcesRead}
use Rattle.ob_board.proofs.Shared.{few_reached, parts_reached}
use Rattle.ob_board.specs.Entries.{interfaces_of, AreAllNamed, IsEntryOf, EntryModel}
use Rattle.ob_board.specs.UnresolvedEntry.{IsModuleInput, IsUnresolvedEntryOf, UnresolvedEntryModel}
use Rattle.ob_board.specs.Records.{IsEncodedEntryOf, EncodedEntryModel}
use Rattle.ob_board.proofs.Within.{serves_among}
use Rattle.ob_board.proofs.EntryHanding.{reached_named}
use Rattle.ob_board.proofs.Handing.{at_seen, below, name_here, seen_long}

-- a module number is the index of a source and of its parts; with the interfaces that the worker gets they are the module's input
pub record IsGiven (files : List FileModel) (sources : List Source) (modules : List (Box ModuleParts Global)) (board : ImportGraph) (n : ℕ) (parts : List ModuleInterface) : Type 0 where
  pub within : (n < length sources) × (n < length modules)
  pub input : (s : Source) (m : Box ModuleParts Global) (p : ModuleParts) → p ≡ (slice_index_or modules n m).value → IsModuleInput files (slice_index_or sources n s) p parts
  pub named : (s : Source) (m : Box ModuleParts Global) (p : ModuleParts) → p ≡ (slice_index_or modules n m).value → text_at (slice_index_or sources n s).bytes.items p.tokens 1 ≡ list_at (modules_of board).names n
  pub all_named : (s : Source) (m : Box ModuleParts Global) → AreAllNamed parts
  pub serves : (s : Source) (m : Box ModuleParts Global) (precomputed_chains : PrecomputedChains) → AreChainsOf (interfaces_of modules) precomputed_chains → ServesModule parts precomputed_chains

-- the modules of a tree are few
pub few_modules : (sources : List Source) (modules : List (Box ModuleParts Global)) (g : ImportGraph) → AreSourcesRead sources modules g → length (interfaces_of modules) ≤ 2 ^ 32
few_modules sources modules g seen =
    let files = file_models sources modules in
    let few : length (files_of files) ≤ 4096 = seen.kept.are_files.few_modules in
    let many : length modules ≡ length sources = seen.as_many in
    omega (arith, few, many, length-map files file_of, seen_long sources modules many, length-map modules (λ (m : Box ModuleParts Global). arc_value (m.value).interface))

-- what an entry states of its file
abbrev SaysOfFile : {E : Type 0} → (List FileModel → List ℕ → E → Type 0) → (E → ModuleInterface) → Type 0
SaysOfFile {E} is_of shared_of =
    (files : List FileModel) (n : List ℕ) (e : E) → is_of files n e → (file : FileModel) × Contains files file × (names file 1 ≡ n) × (shared_of e ≡ interface_in file)

-- what modules reach by numbers is what they reach by names, in every tree
abbrev AllReachAlike : Type 0
AllReachAlike = (files : List FileModel) (g : ImportGraph) → AreFilesOfGraph (files_of files) g → HasSameReach files g

module _ {E : Type 0} (is_of : List FileModel → List ℕ → E → Type 0) (shared_of : E → ModuleInterface) (tells : SaysOfFile is_of shared_of) (alike : AllReachAlike) where
  given_own : (sources : List Source) (modules : List (Box ModuleParts Global)) (g : ImportGraph) → AreSourcesRead sources modules g
      → (n : ℕ) (parts : List ModuleInterface) → IsJob (is_of (file_models sources modules)) shared_of (modules_of g) n parts → IsGiven (file_models sources modules) sources modules g n parts
  given_own sources modules g seen n parts job =
      let files = file_models sources modules in
      let both = below sources modules g seen n job.0 in
      let at : (s : Source) (m : Box ModuleParts Global) → slice_get files n ≡ Some (file_model_in (slice_index_or sources n s) (slice_index_or modules n m).value) =
      λ s m. at_seen sources modules n (slice_index_or sources n s) (slice_index_or modules n m) (slice_get-get_or sources n s both.0) (slice_get-get_or modules n m both.1) in
      let reached : (s : Source) (m : Box ModuleParts Global) → AreReachedInterfaces files (names (file_model_in (slice_index_or sources n s) (slice_index_or modules n m).value) 1) parts =
      λ s m. parts_reached (is_of files) shared_of files g seen.kept (tells files) (alike files g seen.kept) n parts (file_model_in (slice_index_or sources n s) (slice_index_or modules n m).value) (at s m) job in
      record {
        within = both;
        input = λ s m p is.
            let here = slice_index_or sources n s in
            let own = slice_index_or modules n m in
            subst (λ (x : ModuleParts). IsModuleInput files here x parts) (sym is)
            (record {
              is_of_tree = contains_slice files n (file_model_in here own.value) (at s m);
              is_read = seen.each n here own (slice_get-get_or sources n s both.0) (slice_get-get_or modules n m both.1);
              are_reached = reached s m;
              few_reached = let few = few_reached (is_of files) shared_of files g seen.kept (tells files) n parts job in omega (arith, few);
            });
        named = λ s m p is.
            let here = slice_index_or sources n s in
            ap (λ (x : ModuleParts). text_at here.bytes.items x.tokens 1) is
            ∙ sym (name_here sources modules g seen n here (slice_index_or modules n m) (slice_get-get_or sources n s both.0) (slice_get-get_or modules n m both.1));
        all_named = λ s m. reached_named sources modules g seen [] _ parts (reached s m);
        serves = λ s m precomputed_chains is. serves_among sources modules g seen _ parts (reached s m) precomputed_chains is;
      }

  given : (files : List FileModel) (sources : List Source) (modules : List (Box ModuleParts Global)) (g board : ImportGraph) → files ≡ file_models sources modules → AreSourcesRead sources modules g → g ≡ board
      → (n : ℕ) (parts : List ModuleInterface) → IsJob (is_of files) shared_of (modules_of board) n parts → IsGiven files sources modules board n parts
  given files sources modules g board output_is seen same n parts job =
      let on_own = subst (λ (v : ImportGraph). IsJob (is_of files) shared_of (modules_of v) n parts) (sym same) job in
      let of_own = subst (λ (fs : List FileModel). IsJob (is_of fs) shared_of (modules_of g) n parts) output_is on_own in
      subst (λ (v : ImportGraph). IsGiven files sources modules v n parts) same
      (subst (λ (fs : List FileModel). IsGiven fs sources modules g n parts) (sym output_is) (given_own sources modules g seen n parts of_own))

-- the input where unresolved identifiers are found
pub found_given : AllReachAlike → (files : List FileModel) (sources : List Source) (modules : List (Box ModuleParts Global)) (g board : ImportGraph) → files ≡ file_models sources modules → AreSourcesRead sources modules g → g ≡ board
    → (n : ℕ) (parts : List ModuleInterface) → IsJob (λ (x : List ℕ) (f : UnresolvedEntryModel). IsUnresolvedEntryOf files x f) (λ (f : UnresolvedEntryModel). f.interface) (modules_of board) n parts → IsGiven files sources modules board n parts
found_given alike = given (λ files x f. IsUnresolvedEntryOf files x f) (λ f. f.interface) (λ files x f is. (is.file, is.is_of_tree, is.named, is.interface_is)) alike

-- the input where an entry is made
pub entry_given : AllReachAlike → (package_name : List ℕ) (files : List FileModel) (sources : List Source) (modules : List (Box ModuleParts Global)) (g board : ImportGraph) → files ≡ file_models sources modules → AreSourcesRead sources modules g
    → g ≡ board → (n : ℕ) (parts : List ModuleInterface) → IsJob (λ (x : List ℕ) (e : EntryModel). IsEntryOf files package_name x e) (λ (e : EntryModel). e.interface) (modules_of board) n parts → IsGiven files sources modules board n parts
entry_given alike package_name = given (λ files x e. IsEntryOf files package_name x e) (λ e. e.interface) (λ files x e is. (is.file, is.is_of_tree, is.named, is.entry.interface_is)) alike

-- the input where the record of a document is made
pub recorded_given : AllReachAlike → (package_name : List ℕ) (files : List FileModel) (sources : List Source) (modules : List (Box ModuleParts Global)) (g board : ImportGraph) → files ≡ file_models sources modules → AreSourcesRead sources modules g
    → g ≡ board → (n : ℕ) (parts : List ModuleInterface) → IsJob (λ (x : List ℕ) (r : EncodedEntryModel). IsEncodedEntryOf files package_name x r) (λ (r : EncodedEntryModel). r.interface) (modules_of board) n parts → IsGiven files sources modules board n parts
recorded_given alike package_name = given (λ files x r. IsEncodedEntryOf files package_name x r) (λ r. r.interface) (λ files x r is. (is.entry.file, is.entry.is_of_tree, is.entry.named, is.entry.entry.interface_is)) alike
