-- The written form of an index in its parts.
use Rattle.std.proofs.Common.{◌≡◌, ◌++◌, List, [], ◌∷◌, map, refl, ap, ◌∙◌}
use Rattle.std.specs.Option.{option_to_list}
use Rattle.proto_wire.specs.Writing.{payload_fields, spelled_fields}
use Rattle.scip_index.specs.Plain.{DocumentModel, IndexModel}
use Rattle.scip_index.specs.Written.{document_part, documents_part, externals_part, metadata_part, written, written_document, written_metadata, written_symbol}
use Rattle.scip_index.proofs.WritingSteps.{spelled_fields-append}

documents_spelled : (ds : List DocumentModel) → spelled_fields (payload_fields 2 (map written_document ds)) ≡ documents_part ds
documents_spelled [] = refl
documents_spelled (d ∷ ds) = ap (λ xs. document_part d ++ xs) (documents_spelled ds)

pub written_in_parts : (i : IndexModel) → written i ≡ metadata_part i.metadata ++ documents_part i.documents ++ externals_part i.external_symbols
unfolding written
written_in_parts i =
    let a = payload_fields 1 (map written_metadata (option_to_list i.metadata)) in
    let b = payload_fields 2 (map written_document i.documents) in
    let c = payload_fields 3 (map written_symbol i.external_symbols) in
    spelled_fields-append (a ++ b) c ∙ ap (λ xs. xs ++ spelled_fields c) (spelled_fields-append a b ∙ ap (λ xs. spelled_fields a ++ xs) (documents_spelled i.documents))
