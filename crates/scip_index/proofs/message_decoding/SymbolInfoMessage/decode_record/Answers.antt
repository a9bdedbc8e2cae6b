use Rattle.std.proofs.Common.{refl}
use Rattle.proto_wire.specs.Messages.{payload_record}
use Rattle.scip_index.proofs.MeaningLaws.{symbol-more}
use Rattle.scip_index.proofs.message_decoding.SymbolInfoMessage.decode_record.Goals as goal

pub returns-clause-means : goal.returns-clause-means
returns-clause-means c = λ front h.
    symbol-more front (payload_record c.args.wire.now c.args.payload.now) _ _ h (rw (c.in_ok-decode_text.ensures.text, c.in_ok-decode_text-2.ensures.text) refl)
