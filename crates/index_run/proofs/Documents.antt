-- The written form of documents, one after another, by a writer that hasn't failed.
use Rattle.std.proofs.Common.{◌≡◌, ◌++◌, ℕ, List, Option, Some, None, Ok, map, refl, ap, ◌∙◌}
use Rattle.std.specs.Prelude.{option_map}
use Rattle.byte_sink.specs.declared.sink.SinkFault.{SinkFault}
use Rattle.proto_wire.specs.Writers.{result_of_error}
use Rattle.scip_index.specs.declared.index.Document.{Document}
use Rattle.scip_index.specs.declared.index.Index.{Index}
use Rattle.scip_index.specs.declared.index.Metadata.{Metadata}
use Rattle.scip_index.specs.Plain.{document_model, index_model, metadata_model, symbol_model, IndexModel}
use Rattle.scip_index.specs.Written.{document_part, documents_part, externals_part, metadata_part, written}

-- the part of a document, and those of these documents
abbrev pub part : Document → List ℕ
part d = document_part (document_model d)

abbrev pub parts : List Document → List ℕ
parts documents = documents_part (map document_model documents)

-- a writer that has answered Ok has refused nothing
pub nothing_refused : (o : Option SinkFault) → Ok tt ≡ result_of_error o → o ≡ None
nothing_refused None e = refl
nothing_refused (Some fault) e = absurd cc

-- an index in its parts, with the metadata that it has
pub index_parts : ((i : IndexModel) → written i ≡ metadata_part i.metadata ++ documents_part i.documents ++ externals_part i.external_symbols) → (index : Index) (m : Metadata) → index.metadata ≡ Some m
    → written (index_model index) ≡ metadata_part (Some (metadata_model m)) ++ parts index.documents.items ++ externals_part (map symbol_model index.external_symbols.items)
index_parts law index m e =
    law (index_model index) ∙ ap (λ (o : Option Metadata). metadata_part (option_map metadata_model o) ++ parts index.documents.items ++ externals_part (map symbol_model index.external_symbols.items)) e
