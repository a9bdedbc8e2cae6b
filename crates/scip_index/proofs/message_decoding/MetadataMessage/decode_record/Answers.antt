use Rattle.std.proofs.Common.{refl}
use Rattle.proto_wire.specs.Messages.{payload_record, field_values, if_field, nested_records}
use Rattle.std.specs.Prelude.{◌++◌}
use Rattle.std.proofs.Common.{ap}
use Rattle.scip_index.specs.Plain.{tool_model, MetadataModel}
use Rattle.scip_index.specs.Meaning.{tool_of}
use Rattle.scip_index.proofs.MeaningLaws.{IsMerged-from, IsMerged-to, metadata-more}
use Rattle.scip_index.proofs.message_decoding.MetadataMessage.decode_record.Goals as goal

pub returns-clause-means : goal.returns-clause-means
returns-clause-means c = λ front h.
    let p = payload_record c.args.wire.now c.args.payload.now in
    let given = field_values 2 nested_records front in
    let before = IsMerged-to tool_model tool_of c.args.self.now.tool_info given (ap (λ (m : MetadataModel). m.tool_info) h) in
    let after = IsMerged-from tool_model tool_of c.merge_message.new.message (given ++ if_field 2 p.wire (nested_records p)) (c.in_ok-merge_message.ensures.means given before) in
    metadata-more front p _ _ _ h after (rw (c.decode_number.ensures, c.in_ok-decode_text.ensures.text, c.decode_number-2.ensures) refl)
