-- The entry of a module, and the entries of all.
use Rattle.std.proofs.Common.{◌≡◌, ℕ, zero, suc, ◌<◌, List, [], ◌∷◌, length, get_or, map, Some, refl, sym, ap, ◌∙◌, subst, arith, inl, inr}
use Rattle.std.specs.Prelude.{Contains, slice_get, Box}
use Rattle.std.specs.Arc.{arc_value}
use Rattle.std.specs.List.{flat_map}
use Rattle.std.specs.declared.alloc.Global.{Global}
use Rattle.std.proofs.lemmas.List.{length-take-le}
use Rattle.std.proofs.lemmas.List.Elements.{Contains-append_cases}
use Rattle.std.proofs.lemmas.List.Folds.{flat_map-map}
use Rattle.std.proofs.lemmas.Option.{get_or_from_slice_get, slice_get-get_or, slice_get_within}
use Rattle.digraph.proofs.Members.{first_or_later}
use Rattle.ob_emit.specs.Externals.{AreExternalRows}
use Rattle.ob_emit.specs.Named.{HasNames}
use Rattle.ob_emit.proofs.NamesGiven.{seen_named}
use Rattle.module_table.specs.Tables.{rows_in}
use Rattle.ob_imports.specs.Graphs.{ImportGraph}
use Rattle.ob_interface.specs.Interfaces.{ModuleInterface}
use Rattle.source_tree.specs.declared.parts.ModuleParts.{ModuleParts}
use Rattle.source_tree.specs.declared.source.Source.{Source}
use Rattle.source_tree.specs.declared.parts.TreeParts.{TreeParts}
use Rattle.source_tree.specs.Parts.{ArePartsOfTree}
use Rattle.source_tree.specs.Trees.{ModuleFile}
use Rattle.scip_index.specs.Plain.{DocumentModel, IndexModel}
use Rattle.ob_board.specs.declared.entry.Entry.{Entry}
use Rattle.board_workers.specs.Parts.{AreEntries as AreAtBoard}
use Rattle.ob_board.specs.BoardGraphs.{modules_of}
use Rattle.ob_board.specs.Reached.{interface_in, names, file_model, AreReachedInterfaces, FileModel}
use Rattle.ob_board.specs.SourceParts.{file_models, file_model_in, AreSourcesRead, IsSourceRead}
use Rattle.ob_board.proofs.Chained.{as_many, modules_within}
use Rattle.ob_board.proofs.SeenFiles.{seen_are}
use Rattle.ob_board.proofs.Shared.{same_file}
use Rattle.ob_board.specs.Entries.{AreAllNamed, AreEntriesOf, IsEntry, IsEntryOf, IsWritten, entry_model, EntryModel}
use Rattle.ob_board.specs.UnresolvedEntry.{IsModuleInput}
use Rattle.ob_board.specs.Indexes.{AreTreeEntries, IsIndex, IsBuiltFrom}
use Rattle.ob_board.proofs.Handing.{name_at}

-- the parts of all sources are the parts of their files
seen_all : (P : FileModel → Type 0) (sources : List Source) (modules : List (Box ModuleParts Global)) →
    ((k : ℕ) (s : Source) (m : Box ModuleParts Global) → slice_get sources k ≡ Some s → slice_get modules k ≡ Some m → P (file_model_in s m.value)) →
    (file : FileModel) → Contains (file_models sources modules) file → P file
seen_all P [] modules each file (k, l, e) = absurd (omega arith)
seen_all P (s ∷ sources) [] each file (k, l, e) = absurd (omega arith)
seen_all P (s ∷ sources) (m ∷ modules) each file has = elim (first_or_later (file_model_in s m.value) (file_models sources modules) file has) [
  | inl same ↦ subst P same (each zero s m refl refl)
  | inr later ↦ seen_all P sources modules (λ k a b p q. each (suc k) a b p q) file later
]

module _ (sources : List Source) (modules : List (Box ModuleParts Global)) (g : ImportGraph) (seen : AreSourcesRead sources modules g) (package_name : List ℕ) where
  abbrev files : List FileModel
  files = file_models sources modules

  file_named : (file : FileModel) → Contains files file → HasNames (interface_in file)
  file_named = seen_all (λ (file : FileModel). HasNames (interface_in file)) sources modules
      (λ k s m p q. let h : IsSourceRead s m.value = seen.each k s m p q in seen_named s.bytes.items m.value.tokens (rows_in m.value.table) h.scopes.named)

  pub reached_named : (m : List ℕ) (parts : List ModuleInterface) → AreReachedInterfaces files m parts → AreAllNamed parts
  reached_named m parts output_is = λ i has. let from = (output_is.exact i).0 has in subst HasNames from.is (file_named from.file from.is_of_tree)

  -- the entries of all modules
  pub entries_all : (all : List EntryModel) → AreAtBoard (λ (x : List ℕ) (e : EntryModel). IsEntryOf files package_name x e) (modules_of g) all → AreEntriesOf files package_name all
  entries_all all output_is =
      let many = as_many files g seen.kept in
      let front = length-take-le g.modules g.names (modules_within files g seen.kept) in
      let size = output_is.size in
      record {
        as_many = omega arith;
        each = λ k file e at at_e.
            let lt : k < length all = slice_get_within all k e at_e in
            let found = output_is.own k e lt in
            let here : get_or all k e ≡ e = get_or_from_slice_get all k e e at_e in
            let same : found.file ≡ file = same_file files g seen.kept k file found.file at found.is_of_tree (found.named ∙ name_at sources modules g seen k file at) in
            subst (λ (x : FileModel). IsEntry files package_name x e) same (subst (IsEntry files package_name found.file) here found.entry);
      }

-- the entry of a module, from its document
pub made_entry : (files : List FileModel) (package_name : List ℕ) (s : Source) (parts : ModuleParts) (reached : List ModuleInterface) (e : EntryModel) → IsModuleInput files s parts reached →
    IsWritten s parts reached package_name e.document e.externals → e.name ≡ names (file_model_in s parts) 1 → e.interface ≡ arc_value parts.interface → IsEntryOf files package_name e.name e
made_entry files package_name s parts reached e hand w named shared = record {
  file = file_model_in s parts;
  is_of_tree = hand.is_of_tree;
  named = sym named;
  entry = record {
    name_is = named;
    interface_is = shared ∙ hand.is_read.interface;
    refs = w.refs;
    resolved = record { scopes = parts.scopes; are_scopes = hand.is_read.scopes; reached = reached; are_reached = hand.are_reached; are_references = w.references };
    output_is = w.output_is;
  };
}

-- the entries of the parts of a tree are the entries of the tree
pub entries_told : (sources : List Source) (package_name : List ℕ) (files : List ModuleFile) (tree : TreeParts) (entries : List EntryModel) → ArePartsOfTree sources files tree →
    AreEntriesOf (file_models sources tree.modules.items) package_name entries → AreTreeEntries sources package_name entries
entries_told sources package_name files tree entries output_is of = record {
  files = files;
  is_tree = record { accepted = output_is.all.accepted; graph = tree.graph; kept = output_is.kept; acyclic = output_is.acyclic };
  are_entries = subst (λ (fs : List FileModel). AreEntriesOf fs package_name entries) (seen_are sources files tree.modules.items output_is.all) of;
}

-- the external symbols of all entries satisfy `AreExternalRows`
external_rows : (entries : List EntryModel) → ((k : ℕ) (e : EntryModel) → slice_get entries k ≡ Some e → AreExternalRows e.externals) → AreExternalRows (flat_map (λ (e : EntryModel). e.externals) entries)
external_rows [] each x (k, l, e) = absurd (omega arith)
external_rows (y ∷ ys) each x has = elim (Contains-append_cases y.externals (flat_map (λ (e : EntryModel). e.externals) ys) x has) [
  | inl here ↦ each zero y refl x here
  | inr later ↦ external_rows ys (λ k e at. each (suc k) e at) x later
]

pub externals_of_files : (files : List FileModel) (package_name : List ℕ) (entries : List EntryModel) → AreEntriesOf files package_name entries → AreExternalRows (flat_map (λ (e : EntryModel). e.externals) entries)
externals_of_files files package_name entries output_is =
    external_rows entries (λ k e at.
    let lt : k < length entries = slice_get_within entries k e at in
    let many : length entries ≡ length files = output_is.as_many in
    let room : k < length files = omega arith in
    let file = get_or files k none_seen in
    let at_file : slice_get files k ≡ Some file = slice_get-get_or files k none_seen room in
    (output_is.each k file e at_file at).output_is.rows)
  where
    none_seen : FileModel
    none_seen = record { path = []; bytes = []; tokens = []; rows = record { decl_groups = []; declared = []; uses = []; blocks = []; imports = []; parts = []; records = []; designators = []; selectors = []; ends = [] } }

pub externals_of_tree : (sources : List Source) (package_name : List ℕ) (entries : List EntryModel) → AreTreeEntries sources package_name entries → AreExternalRows (flat_map (λ (e : EntryModel). e.externals) entries)
externals_of_tree sources package_name entries output_is = externals_of_files (map file_model output_is.files) package_name entries output_is.are_entries

-- what entries have, by either way of seeing them
pub same_externals : (es : List Entry) → flat_map (λ (e : Entry). (entry_model e).externals) es ≡ flat_map (λ (e : EntryModel). e.externals) (map entry_model es)
same_externals es = sym (flat_map-map (λ (e : EntryModel). e.externals) entry_model es)

pub same_documents : (es : List Entry) → map (λ (e : Entry). (entry_model e).document) es ≡ map (λ (e : EntryModel). e.document) (map entry_model es)
same_documents [] = refl
same_documents (e ∷ es) = ap (λ (ds : List DocumentModel). (entry_model e).document ∷ ds) (same_documents es)

-- an index of the entries of a tree is the index of the tree
pub index_told : (sources : List Source) (package_name root : List ℕ) (entries : List EntryModel) (index : IndexModel) → AreTreeEntries sources package_name entries → IsBuiltFrom entries root index →
    IsIndex sources package_name root index
index_told sources package_name root entries index output_is built = record { files = output_is.files; is_tree = output_is.is_tree; is_index = record { entries = entries; are_entries = output_is.are_entries; built = built } }
