use Rattle.std.proofs.Common.{refl, arith}
use Rattle.proto_wire.specs.declared.record.WireValue.TheVariants.{Eight, Four}
use Rattle.proto_wire.proofs.ShortRecords.{fixed_in_front}
use Rattle.proto_wire.proofs.record.read_compact_fixed.Goals as goal

pub returns-in-1-clause-exact : goal.returns-in-1-clause-exact
returns-in-1-clause-exact c =
    rw c.record.ensures
    (fixed_in_front c.args.at c.args.bytes.now c.from-field.result 7 1 Eight (omega (arith, c.in-len2-up.len_at_least)) (omega (arith, c.if-key-lt8.false)) (omega (arith, c.if-key-ge128.false)) (omega (arith, c.in-1.is)) c.from-field.ensures
    c.if-rest-ge7.true (λ content e. (refl, refl, omega (arith, e), refl)))

pub returns-in-5-clause-exact : goal.returns-in-5-clause-exact
returns-in-5-clause-exact c =
    rw c.record-in-5.ensures
    (fixed_in_front c.args.at c.args.bytes.now c.from-field.result 3 5 Four (omega (arith, c.in-len2-up.len_at_least)) (omega (arith, c.if-key-lt8.false)) (omega (arith, c.if-key-ge128.false)) (omega (arith, c.in-5.is)) c.from-field.ensures
    c.if-rest-ge3.true (λ content e. (refl, refl, omega (arith, e), refl)))
