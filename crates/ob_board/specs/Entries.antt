-- The entry of a module of a tree: its document, its interface, and the external symbols that it uses.
use Rattle.std.specs.Prelude.{◌≡◌, ℕ, List, length, map, Some, Contains, slice_get, Box}
use Rattle.std.specs.Arc.{arc_value}
use Rattle.std.specs.String.{string_bytes}
use Rattle.std.specs.declared.alloc.Global.{Global}
use Rattle.ob_emit.specs.Documents.{document_of}
use Rattle.ob_emit.specs.Externals.{externals_in, AreExternalRows, AreExternals}
use Rattle.ob_emit.specs.Named.{HasNames}
use Rattle.module_table.specs.Tables.{rows_in}
use Rattle.ob_interface.specs.Interfaces.{ModuleInterface}
use Rattle.ob_view.specs.declared.target.Reference.{Reference}
use Rattle.ob_targets.specs.Refers.{AreReferences}
use Rattle.ob_view.specs.World.{world, World}
use Rattle.source_tree.specs.declared.parts.ModuleParts.{ModuleParts}
use Rattle.source_tree.specs.declared.source.Source.{Source}
use Rattle.scip_index.specs.Plain.{document_model, symbol_model, DocumentModel, SymbolModel}
use Rattle.ob_board.specs.Reached.{interface_in, names, FileModel}
use Rattle.ob_board.specs.declared.entry.Entry.{Entry}
use Rattle.ob_board.specs.Resolved.{AreResolved}

-- the entry of a module as contracts describe it
pub record EntryModel : Type 0 where
  pub name : List ℕ
  pub document : DocumentModel
  pub interface : ModuleInterface
  pub externals : List SymbolModel

-- an entry as contracts describe it
abbrev pub entry_model : Entry → EntryModel
entry_model e = record { name = string_bytes e.name; document = document_model e.document; interface = arc_value e.interface; externals = map symbol_model e.externals.items }

-- the document and the external symbols are those of the module `w` with these references, in a file at this path
pub record AreOutputsOf (path package_name : List ℕ) (w : World) (refs : List Reference) (document : DocumentModel) (externals : List SymbolModel) : Type 0 where
  pub document_is : document ≡ document_of w path package_name refs
  pub externals_are : AreExternals (externals_in w refs) externals
  pub rows : AreExternalRows externals

-- the entry is that of the module in `file`, one of the files of the tree
pub record IsEntry (files : List FileModel) (package_name : List ℕ) (file : FileModel) (e : EntryModel) : Type 0 where
  pub name_is : e.name ≡ names file 1
  pub interface_is : e.interface ≡ interface_in file
  pub refs : List Reference
  pub resolved : AreResolved files file refs
  pub output_is : AreOutputsOf file.path package_name (world file.bytes file.tokens file.rows resolved.scopes resolved.reached) refs e.document e.externals

-- the entry is that of the module of this name, in a tree with these files
pub record IsEntryOf (files : List FileModel) (package_name name : List ℕ) (e : EntryModel) : Type 0 where
  pub file : FileModel
  pub is_of_tree : Contains files file
  pub named : names file 1 ≡ name
  pub entry : IsEntry files package_name file e

-- the list has one entry for each file, that of the file's module, in the order of the files
pub record AreEntriesOf (files : List FileModel) (package_name : List ℕ) (entries : List EntryModel) : Type 0 where
  pub as_many : length entries ≡ length files
  pub each : (k : ℕ) (file : FileModel) (e : EntryModel) → slice_get files k ≡ Some file → slice_get entries k ≡ Some e → IsEntry files package_name file e

-- ---- intermediate results

-- the document and the external symbols are those of the module `w` in a file at this path
pub record IsDocumentBy (w : World) (path package_name : List ℕ) (document : DocumentModel) (externals : List SymbolModel) : Type 0 where
  pub refs : List Reference
  pub references : AreReferences w refs
  pub output_is : AreOutputsOf path package_name w refs document externals

-- the document and the external symbols are those of a module with these parts, which reaches modules with these interfaces
abbrev pub IsWritten : Source → ModuleParts → List ModuleInterface → List ℕ → DocumentModel → List SymbolModel → Type 0
IsWritten s parts reached = IsDocumentBy (world s.bytes.items parts.tokens (rows_in parts.table) parts.scopes reached) (string_bytes s.path)

-- the interfaces of the modules with these parts
abbrev pub interfaces_of : List (Box ModuleParts Global) → List ModuleInterface
interfaces_of modules = map (λ m. arc_value (m.value).interface) modules

-- the names in these interfaces are identifiers
abbrev pub AreAllNamed : List ModuleInterface → Type 0
AreAllNamed reached = (m : ModuleInterface) → Contains reached m → HasNames m
