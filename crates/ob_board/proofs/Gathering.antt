-- The entries of a scheduler at which each module is completed.
use Rattle.std.proofs.Common.{◌≡◌, ℕ, List, [], ◌∷◌, length, map, Some, refl, sym, ap, ◌∙◌, subst}
use Rattle.std.specs.Prelude.{Option, count_by, is_none, Box}
use Rattle.std.specs.List.{flat_map}
use Rattle.std.specs.declared.alloc.Global.{Global}
use Rattle.ob_emit.specs.Externals.{AreExternalRows}
use Rattle.ob_imports.specs.Graphs.{ImportGraph}
use Rattle.source_tree.specs.Parts.{ArePartsOfTree}
use Rattle.source_tree.specs.Trees.{ModuleFile}
use Rattle.source_tree.specs.declared.parts.ModuleParts.{ModuleParts}
use Rattle.source_tree.specs.declared.parts.TreeParts.{TreeParts}
use Rattle.source_tree.specs.declared.source.Source.{Source}
use Rattle.scip_index.specs.Plain.{IndexModel}
use Rattle.work_board.specs.Cores.{AreModuleEntries}
use Rattle.board_workers.proofs.Wholes.{entries_from}
use Rattle.ob_board.specs.declared.entry.Entry.{Entry}
use Rattle.ob_board.specs.BoardGraphs.{modules_of}
use Rattle.ob_board.specs.Reached.{FileModel}
use Rattle.ob_board.specs.SourceParts.{file_models, AreSourcesRead}
use Rattle.ob_board.specs.Entries.{entry_model, AreEntriesOf, IsEntryOf, EntryModel}
use Rattle.ob_board.specs.Indexes.{IsIndex, IsIndexOf}
use Rattle.ob_board.proofs.EntryHanding.{entries_all, externals_of_files, same_externals}
use Rattle.ob_board.proofs.Handing.{in_own}
use Rattle.ob_board.proofs.SeenFiles.{seen_are}

-- if each module has an entry, none is missing
pub none_missing : {X E : Type 0} (f : X → E) (xs : List X) → count_by is_none (map (λ (x : X). Some (f x)) xs) ≡ 0
none_missing f [] = refl
none_missing f (x ∷ xs) = none_missing f xs

some_mapped : (entries : List Entry) → map (λ (e : EntryModel). Some e) (map entry_model entries) ≡ map (λ (e : Entry). Some (entry_model e)) entries
some_mapped [] = refl
some_mapped (e ∷ entries) = ap (λ (es : List (Option EntryModel)). Some (entry_model e) ∷ es) (some_mapped entries)

-- the entries of a board of this tree are those of its files
pub gathered_entries : (files : List FileModel) (package_name : List ℕ) (sources : List Source) (modules : List (Box ModuleParts Global)) (named own : ImportGraph) → files ≡ file_models sources modules →
    AreSourcesRead sources modules own → named ≡ own → (entries : List Entry) (gathered : List (Option EntryModel)) → map (λ (e : Entry). Some (entry_model e)) entries ≡ gathered →
    length gathered ≡ length (modules_of named).names → AreModuleEntries (λ (x : List ℕ) (e : EntryModel). IsEntryOf files package_name x e) (modules_of named).names gathered →
    AreEntriesOf files package_name (map entry_model entries)
gathered_entries files package_name sources modules named own output_is seen same entries gathered all size of =
    let into_entries = map entry_model entries in
    let at_board = entries_from (λ (x : List ℕ) (e : EntryModel). IsEntryOf files package_name x e) (modules_of named) into_entries gathered (some_mapped entries ∙ all) size of in
    let here = in_own (λ (fs : List FileModel). IsEntryOf fs package_name) files (file_models sources modules) (modules_of named) (modules_of own) into_entries output_is (ap modules_of same) at_board in
    subst (λ (fs : List FileModel). AreEntriesOf fs package_name into_entries) (sym output_is) (entries_all sources modules own seen package_name into_entries here)

pub gathered_externals : (files : List FileModel) (package_name : List ℕ) (entries : List Entry) → AreEntriesOf files package_name (map entry_model entries) →
    AreExternalRows (flat_map (λ (e : Entry). (entry_model e).externals) entries)
gathered_externals files package_name entries output_is = subst AreExternalRows (sym (same_externals entries)) (externals_of_files files package_name (map entry_model entries) output_is)

-- an index of the files of a tree is that of the tree
pub index_of_parts_is_tree_index : (sources : List Source) (files : List ModuleFile) (tree : TreeParts) (package_name root : List ℕ) (index : IndexModel) →
    ArePartsOfTree sources files tree → IsIndexOf (file_models sources tree.modules.items) package_name root index → IsIndex sources package_name root index
index_of_parts_is_tree_index sources files tree package_name root index output_is of = record {
  files = files;
  is_tree = record { accepted = output_is.all.accepted; graph = tree.graph; kept = output_is.kept; acyclic = output_is.acyclic };
  is_index = subst (λ (fs : List FileModel). IsIndexOf fs package_name root index) (seen_are sources files tree.modules.items output_is.all) of;
}
