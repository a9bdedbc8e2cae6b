-- The entry of a module with the record of its document, as an index contains it (scip.proto, `Index.documents`).
use Rattle.std.specs.Prelude.{◌≡◌, ℕ, List, map}
use Rattle.ob_emit.specs.Documents.{document_of}
use Rattle.ob_emit.specs.Externals.{externals_in, AreExternalRows, AreExternals}
use Rattle.module_table.specs.Tables.{rows_in}
use Rattle.ob_interface.specs.Interfaces.{ModuleInterface}
use Rattle.ob_view.specs.declared.target.Reference.{Reference}
use Rattle.ob_targets.specs.Refers.{AreReferences}
use Rattle.ob_view.specs.World.{world, World}
use Rattle.source_tree.specs.declared.parts.ModuleParts.{ModuleParts}
use Rattle.source_tree.specs.declared.source.Source.{Source}
use Rattle.std.specs.List.{flat_map}
use Rattle.std.specs.String.{string_bytes}
use Rattle.scip_index.specs.Plain.{DocumentModel, SymbolModel}
use Rattle.scip_index.specs.Written.{document_part}
use Rattle.ob_board.specs.Reached.{FileModel}
use Rattle.ob_board.specs.Entries.{AreEntriesOf, IsEntryOf, EntryModel}
use Rattle.ob_board.specs.Indexes.{AreTreeEntries}

-- an entry with the encoded record of the document (`bytes`) instead of the document itself
pub record EncodedEntryModel : Type 0 where
  pub name : List ℕ
  pub bytes : List ℕ
  pub interface : ModuleInterface
  pub externals : List SymbolModel

-- the entry `r` with the document `d` instead of the encoded record
abbrev pub with_document : EncodedEntryModel → DocumentModel → EntryModel
with_document r d = record { name = r.name; document = d; interface = r.interface; externals = r.externals }

-- the entry is that of the module of this name, in a tree with these files, and has the encoded record of the module's document
pub record IsEncodedEntryOf (files : List FileModel) (package_name name : List ℕ) (r : EncodedEntryModel) : Type 0 where
  pub document : DocumentModel
  pub bytes_are : r.bytes ≡ document_part document
  pub entry : IsEntryOf files package_name name (with_document r document)

-- the bytes are the encoded record of the document of the module `w` in a file at this path, and the external symbols are those of the
-- module
pub record IsEncodedBy (w : World) (path package_name bytes : List ℕ) (externals : List SymbolModel) : Type 0 where
  pub refs : List Reference
  pub references : AreReferences w refs
  pub bytes_are : bytes ≡ document_part (document_of w path package_name refs)
  pub externals_are : AreExternals (externals_in w refs) externals
  pub rows : AreExternalRows externals

-- the record and the external symbols are those of a module with these parts, which reaches modules with these interfaces
abbrev pub IsEncoded : Source → ModuleParts → List ModuleInterface → List ℕ → List ℕ → List SymbolModel → Type 0
IsEncoded s parts reached = IsEncodedBy (world s.bytes.items parts.tokens (rows_in parts.table) parts.scopes reached) (string_bytes s.path)

-- the documents of these entries
abbrev pub documents_in : List EntryModel → List DocumentModel
documents_in entries = map (λ (e : EntryModel). e.document) entries

-- the lists are the encoded records of the documents of all files, in the order of the files, and the concatenated external symbols of all
-- files
pub record AreRecordsOf (files : List FileModel) (package_name : List ℕ) (records : List (List ℕ)) (externals : List SymbolModel) : Type 0 where
  pub entries : List EntryModel
  pub are_entries : AreEntriesOf files package_name entries
  pub records_are : map document_part (documents_in entries) ≡ records
  pub externals_are : flat_map (λ (e : EntryModel). e.externals) entries ≡ externals

-- the lists are the encoded records and the external symbols of the tree of these sources
pub record AreTreeRecords (sources : List Source) (package_name : List ℕ) (records : List (List ℕ)) (externals : List SymbolModel) : Type 0 where
  pub entries : List EntryModel
  pub are_entries : AreTreeEntries sources package_name entries
  pub records_are : map document_part (documents_in entries) ≡ records
  pub externals_are : flat_map (λ (e : EntryModel). e.externals) entries ≡ externals
