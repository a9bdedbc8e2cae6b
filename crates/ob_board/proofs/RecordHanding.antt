-- Entries with the records of their documents: of one module, and of all.
use Rattle.std.proofs.Common.{◌≡◌, ℕ, zero, suc, List, [], ◌∷◌, ◌++◌, length, get_or, map, None, Some, Result, Ok, Err, refl, sym, ap, ap₂, ◌∙◌, subst}
use Rattle.std.specs.Prelude.{slice_get, Box, IfOk}
use Rattle.std.specs.Global.{Vec}
use Rattle.std.specs.List.{flat_map}
use Rattle.std.specs.declared.alloc.Global.{Global}
use Rattle.std.proofs.lemmas.List.Folds.{flat_map-map}
use Rattle.std.proofs.lemmas.Option.{get_or_from_slice_get, slice_get-get_or, slice_get_within}
use Rattle.ob_emit.specs.Documents.{document_of}
use Rattle.ob_emit.specs.Externals.{AreExternalRows, AreExternals}
use Rattle.module_table.specs.Tables.{rows_in}
use Rattle.ob_imports.specs.Graphs.{ImportGraph}
use Rattle.module_table.proofs.Elements.{some_one}
use Rattle.ob_interface.specs.Interfaces.{ModuleInterface}
use Rattle.ob_view.specs.World.{world}
use Rattle.std.specs.Arc.{arc_value}
use Rattle.std.specs.String.{string_bytes}
use Rattle.source_tree.specs.declared.parts.ModuleParts.{ModuleParts}
use Rattle.source_tree.specs.declared.parts.TreeParts.{TreeParts}
use Rattle.source_tree.specs.declared.source.Source.{Source}
use Rattle.source_tree.specs.Parts.{ArePartsOfTree}
use Rattle.source_tree.specs.Trees.{ModuleFile}
use Rattle.scip_index.specs.Plain.{metadata_model, symbol_model, DocumentModel, IndexModel, SymbolModel}
use Rattle.scip_index.specs.Written.{document_part}
use Rattle.work_board.specs.Graphs.{list_at}
use Rattle.board_workers.specs.Parts.{AreEntries as AreAtBoard}
use Rattle.ob_board.specs.BoardGraphs.{modules_of}
use Rattle.ob_board.specs.Reached.{names, FileModel}
use Rattle.ob_board.specs.SourceParts.{file_models, file_model_in, AreSourcesRead}
use Rattle.ob_board.specs.Entries.{IsEntryOf, EntryModel}
use Rattle.ob_board.specs.UnresolvedEntry.{IsModuleInput}
use Rattle.ob_board.specs.Records.{documents_in, with_document, AreRecordsOf, AreTreeRecords, IsEncoded, IsEncodedEntryOf, EncodedEntryModel}
use Rattle.ob_board.specs.WrittenIndexes.{IsWrittenIndex}
use Rattle.ob_board.specs.declared.writing.EncodedIndex.{EncodedIndex}
use Rattle.ob_board.specs.Indexes.{tool_metadata}
use Rattle.ob_board.proofs.EntryHanding.{entries_all, entries_told, externals_of_tree, index_told, made_entry}

-- the encoded entry of a module, from the record of its document
pub made_recorded : (all : List FileModel) (package_name : List ℕ) (s : Source) (parts : ModuleParts) (reached : List ModuleInterface) (r : EncodedEntryModel) → IsModuleInput all s parts reached →
    IsEncoded s parts reached package_name r.bytes r.externals → r.name ≡ names (file_model_in s parts) 1 → r.interface ≡ arc_value parts.interface → IsEncodedEntryOf all package_name r.name r
made_recorded all package_name s parts reached r hand w named shared =
    let d = document_of (world s.bytes.items parts.tokens (rows_in parts.table) parts.scopes reached) (string_bytes s.path) package_name w.refs in
    record {
      document = d;
      bytes_are = w.bytes_are;
      entry = made_entry all package_name s parts reached (with_document r d) hand
          (record { refs = w.refs; references = w.references; output_is = record { document_is = refl; externals_are = w.externals_are; rows = w.rows } }) named shared;
    }

-- ---- the entries, with their documents

-- a document for each
abbrev AreDocuments : List EncodedEntryModel → Type 0
AreDocuments all = (k : ℕ) (r : EncodedEntryModel) → slice_get all k ≡ Some r → DocumentModel

entries_with : (all : List EncodedEntryModel) → AreDocuments all → List EntryModel
entries_with [] d = []
entries_with (r ∷ all) d = with_document r (d zero r refl) ∷ entries_with all (λ k x at. d (suc k) x at)

with_as_many : (all : List EncodedEntryModel) (d : AreDocuments all) → length (entries_with all d) ≡ length all
unfolding entries_with
with_as_many [] d = refl
with_as_many (r ∷ all) d = ap suc (with_as_many all (λ k x at. d (suc k) x at))

with_externals : (all : List EncodedEntryModel) (d : AreDocuments all) → flat_map (λ (e : EntryModel). e.externals) (entries_with all d) ≡ flat_map (λ (r : EncodedEntryModel). r.externals) all
unfolding entries_with
with_externals [] d = refl
with_externals (r ∷ all) d = ap (λ (rows : List SymbolModel). r.externals ++ rows) (with_externals all (λ k x at. d (suc k) x at))

with_records : (all : List EncodedEntryModel) (d : AreDocuments all) → ((k : ℕ) (r : EncodedEntryModel) (at : slice_get all k ≡ Some r) → r.bytes ≡ document_part (d k r at)) →
    map document_part (documents_in (entries_with all d)) ≡ map (λ (r : EncodedEntryModel). r.bytes) all
unfolding entries_with
with_records [] d output_is = refl
with_records (r ∷ all) d output_is =
    ap₂ (λ (a : List ℕ) (b : List (List ℕ)). a ∷ b) (sym (output_is zero r refl)) (with_records all (λ k x at. d (suc k) x at) (λ k x at. output_is (suc k) x at))

-- an entry has the bytes at its index
with_at : (all : List EncodedEntryModel) (d : AreDocuments all) (k : ℕ) (e : EntryModel) → slice_get (entries_with all d) k ≡ Some e →
    (r : EncodedEntryModel) × (at : slice_get all k ≡ Some r) × (with_document r (d k r at) ≡ e)
unfolding entries_with
with_at [] d k e at = absurd (let none : None ≡ Some e = at in cc)
with_at (r ∷ all) d zero e at = (r, refl, some_one (with_document r (d zero r refl)) e at)
with_at (r ∷ all) d (suc k) e at = with_at all (λ j x p. d (suc j) x p) k e at

module _ (sources : List Source) (modules : List (Box ModuleParts Global)) (g : ImportGraph) (seen : AreSourcesRead sources modules g) (package_name : List ℕ) where
  abbrev files : List FileModel
  files = file_models sources modules

  -- the records of all modules
  pub records_all : (all : List EncodedEntryModel) → AreAtBoard (λ (x : List ℕ) (r : EncodedEntryModel). IsEncodedEntryOf files package_name x r) (modules_of g) all →
      AreRecordsOf files package_name (map (λ (r : EncodedEntryModel). r.bytes) all) (flat_map (λ (r : EncodedEntryModel). r.externals) all)
  records_all all output_is =
      let own : (k : ℕ) (r : EncodedEntryModel) → slice_get all k ≡ Some r → IsEncodedEntryOf files package_name (list_at (modules_of g).names k) r =
      λ k r at. subst (IsEncodedEntryOf files package_name (list_at (modules_of g).names k)) (get_or_from_slice_get all k r r at) (output_is.own k r (slice_get_within all k r at)) in
      let d : AreDocuments all = λ k r at. (own k r at).document in
      let es = entries_with all d in
      let size : length es ≡ length (modules_of g).names = with_as_many all d ∙ output_is.size in
      record {
        entries = es;
        are_entries = entries_all sources modules g seen package_name es (record {
          size = size;
          own = λ n e lt.
              let (r, at, same) = with_at all d n (get_or es n e) (slice_get-get_or es n e lt) in
              subst (IsEntryOf files package_name (list_at (modules_of g).names n)) same (own n r at).entry;
        });
        records_are = with_records all d (λ k r at. (own k r at).bytes_are);
        externals_are = with_externals all d;
      }

-- the records and the external symbols that are gathered
pub gathered : {T E : Type 0} (all : List FileModel) (package_name : List ℕ) (records : List (List ℕ)) (rows : List SymbolModel) (result : Result T E) (records_of : T → List (List ℕ)) (locate_all_unresolved : T → List SymbolModel) →
    IfOk result (λ t. records_of t ≡ records) → IfOk result (λ t. locate_all_unresolved t ≡ rows) → AreRecordsOf all package_name records rows →
    IfOk result (λ t. AreRecordsOf all package_name (records_of t) (locate_all_unresolved t))
gathered all package_name records rows (Ok t) records_of locate_all_unresolved e f output_is = rw (e, f) output_is
gathered all package_name records rows (Err fault) records_of locate_all_unresolved e f output_is = tt

-- the records of the parts of a tree are the records of the tree
pub records_told : (sources : List Source) (package_name : List ℕ) (modules : List ModuleFile) (tree : TreeParts) (records : List (List ℕ)) (rows : List SymbolModel) → ArePartsOfTree sources modules tree →
    AreRecordsOf (file_models sources tree.modules.items) package_name records rows → AreTreeRecords sources package_name records rows
records_told sources package_name modules tree records rows output_is of = record {
  entries = of.entries;
  are_entries = entries_told sources package_name modules tree of.entries output_is of.are_entries;
  records_are = of.records_are;
  externals_are = of.externals_are;
}

pub externals_gathered : (sources : List Source) (package_name : List ℕ) (records : List (List ℕ)) (rows : List SymbolModel) → AreTreeRecords sources package_name records rows → AreExternalRows rows
externals_gathered sources package_name records rows of = subst AreExternalRows of.externals_are (externals_of_tree sources package_name of.entries of.are_entries)

-- the parts of an index that are gathered from a tree are those of the tree's index
pub written_told : (sources : List Source) (package_name root : List ℕ) (w : EncodedIndex) (records : List (Vec ℕ)) (rows : List SymbolModel) →
    AreTreeRecords sources package_name (map (λ (row : Vec ℕ). row.items) records) rows →
    metadata_model w.metadata ≡ tool_metadata root → w.records.items ≡ records → AreExternals rows (map symbol_model w.external_symbols.items) → IsWrittenIndex sources package_name root w
written_told sources package_name root w records rows of metadata same externals =
    let each : map document_part (documents_in of.entries) ≡ map (λ (row : Vec ℕ). row.items) w.records.items = of.records_are ∙ ap (map (λ (row : Vec ℕ). row.items)) (sym same) in
    let index : IndexModel = record { metadata = Some (tool_metadata root); documents = documents_in of.entries; external_symbols = map symbol_model w.external_symbols.items } in
    record {
      index = index;
      is_index = index_told sources package_name root of.entries index of.are_entries (record {
        metadata = refl;
        documents = refl;
        externals = subst (λ (xs : List SymbolModel). AreExternals xs index.external_symbols) (sym of.externals_are) externals;
      });
      metadata = ap Some (sym metadata);
      records = each;
      documents =
          sym (flat_map-map (λ (bytes : List ℕ). bytes) document_part (documents_in of.entries)) ∙ ap (flat_map (λ (bytes : List ℕ). bytes)) each
          ∙ flat_map-map (λ (bytes : List ℕ). bytes) (λ (row : Vec ℕ). row.items) w.records.items;
      externals = refl;
    }
