-- The contracts of lower crates imply the definition of a run that indexes a tree.
use Rattle.std.proofs.Common.{◌≡◌, ◌++◌, ℕ, List, Option, Some, Err, codes, map, refl, sym, ◌∙◌, inr}
use Rattle.std.specs.Global.{Vec}
use Rattle.std.specs.List.{flat_map}
use Rattle.byte_sink.specs.declared.sink.SinkFault.{SinkFault}
use Rattle.byte_sink.specs.declared.sink.SinkFault.TheVariants as sink
use Rattle.byte_sink.specs.Sinks.{AppendsPrefix}
use Rattle.hex.specs.Hex.{encode_lower}
use Rattle.ob_board.specs.WrittenIndexes.{IsWrittenIndex}
use Rattle.ob_board.specs.declared.writing.EncodedIndex.{EncodedIndex}
use Rattle.oscip_run.specs.Faults.{of_sink}
use Rattle.index_run.specs.IndexRuns.{IsHexText, IsIndexText, IsTextRun}
use Rattle.source_tree.specs.declared.source.Source.{Source}
use Rattle.scip_index.specs.Plain.{metadata_model, symbol_model, IndexModel}
use Rattle.scip_index.specs.Written.{documents_part, externals_part, metadata_part, written}

-- the parts of an index that is written
abbrev pub parts_text : EncodedIndex → List ℕ
parts_text w = metadata_part (Some (metadata_model w.metadata)) ++ flat_map (λ (row : Vec ℕ). row.items) w.records.items ++ externals_part (map symbol_model w.external_symbols.items)

pub index_text : ((i : IndexModel) → written i ≡ metadata_part i.metadata ++ documents_part i.documents ++ externals_part i.external_symbols)
    → (sources : List Source) (package_name root : List ℕ) (w : EncodedIndex) → IsWrittenIndex sources package_name root w → IsIndexText sources package_name root (parts_text w)
index_text law sources package_name root w is = record {
  index = is.index;
  is_index = is.is_index;
  text_is = sym (law is.index ∙ rw (is.metadata, is.documents, is.externals) refl);
}

pub hex_text : (sources : List Source) (package_name root bytes : List ℕ) → IsIndexText sources package_name root bytes → IsHexText sources package_name root (encode_lower bytes ++ codes "\n")
hex_text sources package_name root bytes is = record { bytes = bytes; is_index = is; text_is = refl }

-- a sink that failed
pub error_prefix : (sources : List Source) (IsText : List ℕ → Type 0) (text : List ℕ) (old new : Option (List ℕ)) (fault : SinkFault) → IsText text → AppendsPrefix old new text
    → IsTextRun sources IsText old new (Err (of_sink fault))
error_prefix sources IsText text old new sink.Memory is front = inr (text, is, front)
error_prefix sources IsText text old new sink.Device is front = (text, is, front)
