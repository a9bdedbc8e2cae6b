-- The index of a tree with encoded documents.
use Rattle.std.specs.Prelude.{◌≡◌, ℕ, List, Some, map}
use Rattle.std.specs.Global.{Vec}
use Rattle.std.specs.List.{flat_map}
use Rattle.source_tree.specs.declared.source.Source.{Source}
use Rattle.scip_index.specs.Plain.{metadata_model, symbol_model, IndexModel}
use Rattle.scip_index.specs.Written.{document_part, documents_part}
use Rattle.ob_board.specs.declared.writing.EncodedIndex.{EncodedIndex}
use Rattle.ob_board.specs.Indexes.{IsIndex}

-- `w` has the parts of the index of the tree of these sources: the metadata, the encoded record of each document, in order, and the
-- external symbols
pub record IsWrittenIndex (sources : List Source) (package_name root : List ℕ) (w : EncodedIndex) : Type 0 where
  pub index : IndexModel
  pub is_index : IsIndex sources package_name root index
  pub metadata : index.metadata ≡ Some (metadata_model w.metadata)
  pub records : map document_part index.documents ≡ map (λ (row : Vec ℕ). row.items) w.records.items
  pub documents : documents_part index.documents ≡ flat_map (λ (row : Vec ℕ). row.items) w.records.items
  pub externals : index.external_symbols ≡ map symbol_model w.external_symbols.items
