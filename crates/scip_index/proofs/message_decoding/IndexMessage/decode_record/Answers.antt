use Rattle.std.proofs.Common.{refl}
use Rattle.proto_wire.specs.Messages.{payload_record, field_values, if_field, nested_records}
use Rattle.std.specs.Prelude.{◌++◌}
use Rattle.std.proofs.Common.{ap}
use Rattle.scip_index.specs.Plain.{symbol_model, document_model, metadata_model, IndexModel}
use Rattle.scip_index.specs.Meaning.{symbol_of, document_of, metadata_of}
use Rattle.scip_index.proofs.MeaningLaws.{AddsMessages-map, IsMerged-from, IsMerged-to, index-more}
use Rattle.scip_index.proofs.message_decoding.IndexMessage.decode_record.Goals as goal

pub returns-clause-means : goal.returns-clause-means
returns-clause-means c = λ front h.
    let p = payload_record c.args.wire.now c.args.payload.now in
    let given = field_values 1 nested_records front in
    let before = IsMerged-to metadata_model metadata_of c.args.self.now.metadata given (ap (λ (i : IndexModel). i.metadata) h) in
    let after = IsMerged-from metadata_model metadata_of c.merge_message.new.message (given ++ if_field 1 p.wire (nested_records p)) (c.in_ok-merge_message.ensures.means given before) in
    let documents = AddsMessages-map document_model document_of (if_field 2 p.wire (nested_records p)) c.args.self.now.documents.items c.decode_messages.new.messages.items c.in_ok-decode_messages.ensures.means in
    let symbols = AddsMessages-map symbol_model symbol_of (if_field 3 p.wire (nested_records p)) c.args.self.now.external_symbols.items c.decode_messages-2.new.messages.items c.in_ok-decode_messages-2.ensures.means in
    index-more front p _ _ _ h after (rw (documents, symbols) refl)
