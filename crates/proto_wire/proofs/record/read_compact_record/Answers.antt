use Rattle.std.proofs.Common.{arith}
use Rattle.proto_wire.proofs.ShortRecords.{number_in_front, payload_in_front}
use Rattle.proto_wire.proofs.record.read_compact_record.Goals as goal

pub returns-in-0-clause-exact : goal.returns-in-0-clause-exact
returns-in-0-clause-exact c =
    number_in_front c.args.at c.args.bytes.now c.from-field.result c.from.result (omega (arith, c.in-len2-up.len_at_least)) (omega (arith, c.if-key-lt8.false)) (omega (arith, c.if-key-ge128.false)) (omega (arith, c.in-0.is)) (omega (arith, c.if-next-ge128.false)) c.from-field.ensures c.from.ensures

pub returns-in-2-clause-exact : goal.returns-in-2-clause-exact
returns-in-2-clause-exact c =
    payload_in_front c.args.at c.args.bytes.now c.from-field.result c.from-count.result _ _ (omega (arith, c.in-len2-up.len_at_least)) (omega (arith, c.if-key-lt8.false)) (omega (arith, c.if-key-ge128.false)) (omega (arith, c.in-2.is)) (omega (arith, c.if-next-ge128.false)) c.from-field.ensures c.from-count.ensures
    (omega (arith, c.if-count-rest.true, c.from-count.ensures)) c.split_at.ensures.front c.split_at.ensures.back
