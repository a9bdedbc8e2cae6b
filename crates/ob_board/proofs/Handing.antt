-- The input of a worker, the files of modules, and the results of all modules.
use Rattle.std.proofs.Common.{◌≡◌, ℕ, zero, suc, ◌<◌, List, [], ◌∷◌, length, get_or, map, None, Some, refl, sym, ap, ◌∙◌, subst, arith}
use Rattle.std.specs.Prelude.{slice_get, option_map, Box}
use Rattle.std.specs.List.{flat_map}
use Rattle.std.specs.declared.alloc.Global.{Global}
use Rattle.std.proofs.lemmas.List.{get_or-take, length-map, length-take-le}
use Rattle.std.proofs.lemmas.List.Folds.{flat_map-map}
use Rattle.std.proofs.lemmas.Option.{get_or_from_slice_get, slice_get-get_or, slice_get-map, slice_get_within}
use Rattle.ob_imports.specs.Graphs.{ImportGraph}
use Rattle.source_tree.specs.declared.parts.ModuleParts.{ModuleParts}
use Rattle.source_tree.specs.declared.source.Source.{Source}
use Rattle.module_table.proofs.Elements.{some_one}
use Rattle.work_board.specs.Graphs.{list_at, Modules}
use Rattle.board_workers.specs.Parts.{AreEntries}
use Rattle.ob_board.specs.BoardGraphs.{modules_of}
use Rattle.ob_board.specs.Reached.{names, FileModel}
use Rattle.ob_board.specs.SourceParts.{file_models, file_model_in, AreSourcesRead}
use Rattle.ob_board.proofs.Chained.{as_many, modules_within, name_of_file}
use Rattle.ob_board.proofs.Shared.{same_file}
use Rattle.ob_board.specs.UnresolvedEntry.{IsUnresolvedEntryOf, UnresolvedEntryModel}
use Rattle.ob_board.specs.Unresolved.{IsUnresolvedIn, IsUnresolvedOf, UnresolvedModel}

pub seen_long : (sources : List Source) (modules : List (Box ModuleParts Global)) → length modules ≡ length sources → length (file_models sources modules) ≡ length sources
seen_long [] modules e = refl
seen_long (s ∷ sources) [] e = absurd (omega arith)
seen_long (s ∷ sources) (m ∷ modules) e = let rest = seen_long sources modules (omega arith) in omega arith

pub at_seen : (sources : List Source) (modules : List (Box ModuleParts Global)) (k : ℕ) (s : Source) (m : Box ModuleParts Global) → slice_get sources k ≡ Some s → slice_get modules k ≡ Some m
    → slice_get (file_models sources modules) k ≡ Some (file_model_in s m.value)
at_seen [] modules k s m p q = absurd (let none : None ≡ Some s = p in cc)
at_seen (a ∷ sources) [] k s m p q = absurd (let none : None ≡ Some m = q in cc)
at_seen (a ∷ sources) (b ∷ modules) zero s m p q =
    ap (λ (x : Source). Some (file_model_in x b.value)) (some_one a s p) ∙ ap (λ (x : Box ModuleParts Global). Some (file_model_in s x.value)) (some_one b m q)
at_seen (a ∷ sources) (b ∷ modules) (suc k) s m p q = at_seen sources modules k s m p q

-- entries of all modules, by the words of a tree itself for its files and its board
pub in_own : {E : Type 0} (is_of : List FileModel → List ℕ → E → Type 0) (files own : List FileModel) (board modules : Modules) (all : List E) → files ≡ own → board ≡ modules → AreEntries (is_of files) board all → AreEntries (is_of own) modules all
in_own is_of files own board modules all same shown output_is =
    subst (λ (fs : List FileModel). AreEntries (is_of fs) modules all) same (subst (λ (m : Modules). AreEntries (is_of files) m all) shown output_is)

module _ (sources : List Source) (modules : List (Box ModuleParts Global)) (g : ImportGraph) (seen : AreSourcesRead sources modules g) where
  abbrev files : List FileModel
  files = file_models sources modules

  -- a module's number is that of a source and of its parts
  pub below : (n : ℕ) → n < length (modules_of g).names → (n < length sources) × (n < length modules)
  below n lt =
      let many = as_many files g seen.kept in
      let long = seen_long sources modules seen.as_many in
      let front = length-take-le g.modules g.names (modules_within files g seen.kept) in
      let same = seen.as_many in
      (omega arith, omega arith)

  pub name_at : (n : ℕ) (file : FileModel) → slice_get files n ≡ Some file → list_at (modules_of g).names n ≡ names file 1
  name_at n file at =
      let many = as_many files g seen.kept in
      let within = slice_get_within files n file at in
      get_or-take g.modules g.names n [] (omega arith) ∙ get_or_from_slice_get g.names n (names file 1) [] (name_of_file files g seen.kept n file at)

  pub name_here : (n : ℕ) (s : Source) (m : Box ModuleParts Global) → slice_get sources n ≡ Some s → slice_get modules n ≡ Some m → list_at (modules_of g).names n ≡ names (file_model_in s m.value) 1
  name_here n s m p q = name_at n (file_model_in s m.value) (at_seen sources modules n s m p q)

  -- what is found of all modules
  pub found_all : (all : List UnresolvedEntryModel) → AreEntries (λ (x : List ℕ) (f : UnresolvedEntryModel). IsUnresolvedEntryOf files x f) (modules_of g) all → IsUnresolvedOf files (flat_map (λ (f : UnresolvedEntryModel). f.rows) all)
  found_all all output_is =
      let many = as_many files g seen.kept in
      let front = length-take-le g.modules g.names (modules_within files g seen.kept) in
      let size = output_is.size in
      let l = length-map all (λ (f : UnresolvedEntryModel). f.rows) in
      record {
        parts = map (λ (f : UnresolvedEntryModel). f.rows) all;
        as_many = omega arith;
        each = λ k file part at at_part.
            let within = slice_get_within files k file at in
            let lt : k < length all = omega arith in
            let d : UnresolvedEntryModel = record { name = []; interface = record { name = []; declarations = []; bases = []; imports = [] }; rows = [] } in
            let f = get_or all k d in
            let here : slice_get all k ≡ Some f = slice_get-get_or all k d lt in
            let found = output_is.own k d lt in
            let same : found.file ≡ file = same_file files g seen.kept k file found.file at found.is_of_tree (found.named ∙ name_at k file at) in
            let is_part : Some f.rows ≡ Some part = sym (slice_get-map (λ (x : UnresolvedEntryModel). x.rows) all k ∙ ap (option_map (λ (x : UnresolvedEntryModel). x.rows)) here) ∙ at_part in
            let rows : f.rows ≡ part = cc in
            subst (λ (x : FileModel). IsUnresolvedIn files x part) same (subst (IsUnresolvedIn files found.file) rows found.are_rows);
        whole = sym (flat_map-map (λ (part : List UnresolvedModel). part) (λ (f : UnresolvedEntryModel). f.rows) all);
      }
