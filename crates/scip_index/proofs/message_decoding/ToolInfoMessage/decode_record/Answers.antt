use Rattle.std.proofs.Common.{refl}
use Rattle.proto_wire.specs.Messages.{payload_record}
use Rattle.scip_index.proofs.MeaningLaws.{tool-more}
use Rattle.scip_index.proofs.message_decoding.ToolInfoMessage.decode_record.Goals as goal

pub returns-clause-means : goal.returns-clause-means
returns-clause-means c = λ front h.
    tool-more front (payload_record c.args.wire.now c.args.payload.now) _ _ h (rw (c.in_ok-decode_text.ensures.text, c.in_ok-decode_text-2.ensures.text, c.in_ok-decode_texts.ensures.texts) refl)
