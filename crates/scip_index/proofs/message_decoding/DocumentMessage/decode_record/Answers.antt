use Rattle.std.proofs.Common.{refl}
use Rattle.proto_wire.specs.Messages.{payload_record, if_field, nested_records}
use Rattle.scip_index.specs.Plain.{occurrence_model, symbol_model}
use Rattle.scip_index.specs.Meaning.{occurrence_of, symbol_of}
use Rattle.scip_index.proofs.MeaningLaws.{AddsMessages-map, document-more}
use Rattle.scip_index.proofs.message_decoding.DocumentMessage.decode_record.Goals as goal

pub returns-clause-means : goal.returns-clause-means
returns-clause-means c = λ front h.
    let p = payload_record c.args.wire.now c.args.payload.now in
    let occurrences = AddsMessages-map occurrence_model occurrence_of (if_field 2 p.wire (nested_records p)) c.args.self.now.occurrences.items c.decode_messages.new.messages.items c.in_ok-decode_messages.ensures.means in
    let symbols = AddsMessages-map symbol_model symbol_of (if_field 3 p.wire (nested_records p)) c.args.self.now.symbols.items c.decode_messages-2.new.messages.items c.in_ok-decode_messages-2.ensures.means in
    document-more front p _ _ h (rw (c.in_ok-decode_text.ensures.text, occurrences, symbols, c.in_ok-decode_text-2.ensures.text, c.decode_number.ensures) refl)
