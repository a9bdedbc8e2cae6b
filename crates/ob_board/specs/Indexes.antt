-- The index of a tree (scip.proto, `Index`).
use Rattle.std.specs.Prelude.{◌≡◌, ℕ, pos, List, [], map, codes, Some}
use Rattle.std.specs.List.{flat_map}
use Rattle.ob_emit.specs.Externals.{AreExternals}
use Rattle.source_tree.specs.Trees.{IsTree, ModuleFile}
use Rattle.source_tree.specs.declared.source.Source.{Source}
use Rattle.scip_index.specs.Plain.{IndexModel, MetadataModel}
use Rattle.ob_board.specs.Reached.{file_model, FileModel}
use Rattle.ob_board.specs.Entries.{AreEntriesOf, EntryModel}

-- the metadata of an index: the tool is oscip, version 1, and the files are UTF-8
abbrev pub tool_metadata : List ℕ → MetadataModel
tool_metadata root = record {
  version = pos 0;
  tool_info = Some (record { name = codes "oscip"; version = codes "1"; arguments = [] });
  project_root = root;
  text_document_encoding = pos 1;
}

-- the index has the documents of these entries, in the order of the entries, and the entries' external symbols, sorted by symbol string,
-- each once
pub record IsBuiltFrom (entries : List EntryModel) (root : List ℕ) (index : IndexModel) : Type 0 where
  pub metadata : index.metadata ≡ Some (tool_metadata root)
  pub documents : index.documents ≡ map (λ (e : EntryModel). e.document) entries
  pub externals : AreExternals (flat_map (λ (e : EntryModel). e.externals) entries) index.external_symbols

-- the index is that of a tree with these files
pub record IsIndexOf (files : List FileModel) (package_name root : List ℕ) (index : IndexModel) : Type 0 where
  pub entries : List EntryModel
  pub are_entries : AreEntriesOf files package_name entries
  pub built : IsBuiltFrom entries root index

-- the index is that of the tree of these sources
pub record IsIndex (sources : List Source) (package_name root : List ℕ) (index : IndexModel) : Type 0 where
  pub files : List ModuleFile
  pub is_tree : IsTree sources files
  pub is_index : IsIndexOf (map file_model files) package_name root index

-- the entries are those of the tree of these sources
pub record AreTreeEntries (sources : List Source) (package_name : List ℕ) (entries : List EntryModel) : Type 0 where
  pub files : List ModuleFile
  pub is_tree : IsTree sources files
  pub are_entries : AreEntriesOf (map file_model files) package_name entries
