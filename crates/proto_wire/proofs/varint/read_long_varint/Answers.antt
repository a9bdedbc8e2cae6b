use Rattle.std.proofs.lemmas.Result.{err_from_is_err_and}
use Rattle.proto_wire.proofs.FiveBytes.{five_then, five_stop}
use Rattle.proto_wire.proofs.varint.read_long_varint.Goals as goal

pub returns-in_err-high-in-len5-up-clause-value : goal.returns-in_err-high-in-len5-up-clause-value
returns-in_err-high-in-len5-up-clause-value c =
    let p = err_from_is_err_and c.from_residual.result c.from_residual.ensures.1 in
    let fault = c.in_err-high-in-len5-up.field-0.0 in
    rw (p.1, p.2) (five_stop c.args.at c.args.bytes.now fault c.in-len5-up.len_at_least
    c.if-a-ge128.true c.if-b-ge128.true c.if-c-ge128.true c.if-d-ge128.true c.if-e-ge128.true c.in_err-high-in-len5-up.ensures.value)

pub returns-in_ok-high-in-len5-up-clause-value : goal.returns-in_ok-high-in-len5-up-clause-value
returns-in_ok-high-in-len5-up-clause-value c =
    let it = c.in_ok-high-in-len5-up in
    five_then c.args.at c.args.bytes.now c.low_bits.result c.low_bits-in-len5-up.result c.low_bits-in-len5-up-2.result c.low_bits-in-len5-up-3.result c.low_bits-in-len5-up-4.result it.high it.rest.now c.in-len5-up.len_at_least
    c.if-a-ge128.true c.if-b-ge128.true c.if-c-ge128.true c.if-d-ge128.true c.if-e-ge128.true
    c.low_bits.ensures.exact c.low_bits-in-len5-up.ensures.exact c.low_bits-in-len5-up-2.ensures.exact c.low_bits-in-len5-up-3.ensures.exact c.low_bits-in-len5-up-4.ensures.exact it.ensures.value
