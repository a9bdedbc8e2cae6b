use Rattle.std.proofs.Common.{refl}
use Rattle.scip_index.proofs.MeaningLaws.{occurrence-more}
use Rattle.proto_wire.specs.Messages.{payload_record}
use Rattle.scip_index.proofs.message_decoding.OccurrenceMessage.decode_record.Goals as goal

pub returns-clause-means : goal.returns-clause-means
returns-clause-means c = λ front h.
    occurrence-more front (payload_record c.args.wire.now c.args.payload.now) _ _ h (rw (c.in_ok-decode_numbers.ensures.numbers, c.in_ok-decode_text.ensures.text, c.decode_number.ensures, c.in_ok-decode_numbers-2.ensures.numbers) refl)
