use Rattle.std.proofs.Common.{◌≡◌, ◌∙◌, true, get_or, sym, arith}
use Rattle.std.specs.Char.{is_ascii_digit}
use Rattle.texts.proofs.FieldNumbers.{digits_end, digits_still, too_much, value_now}
use Rattle.texts.proofs.fields.parse_decimal_digits.Goals as goal

pub returns-in_err-checked_mul : goal.returns-in_err-checked_mul
returns-in_err-checked_mul c =
    let i = c.loop-byte.byte-index in
    let digit : is_ascii_digit (get_or c.args.bytes.now i 0) ≡ true = sym c.if-not-is_ascii_digit.ensures.value in
    let value = value_now c.args.bytes.now i c.loop-byte-test.true c.loop-byte.invariant.digits digit in
    let so_far = c.loop-byte.invariant.so_far in
    let high = c.in_err-checked_mul.ensures in
    c.from_residual.ensures ∙ sym (too_much c.args.bytes.now i c.loop-byte-test.true c.loop-byte.invariant.digits digit (omega arith))

pub returns-in_err-value : goal.returns-in_err-value
returns-in_err-value c =
    let i = c.loop-byte.byte-index in
    let digit : is_ascii_digit (get_or c.args.bytes.now i 0) ≡ true = sym c.if-not-is_ascii_digit.ensures.value in
    let value = value_now c.args.bytes.now i c.loop-byte-test.true c.loop-byte.invariant.digits digit in
    let so_far = c.loop-byte.invariant.so_far in
    let high = c.in_err-value.ensures in
    let tens = c.in_ok-checked_mul.ensures.1 in
    let read = c.from-digit.ensures in
    c.from_residual-in_err-value.ensures ∙ sym (too_much c.args.bytes.now i c.loop-byte-test.true c.loop-byte.invariant.digits digit (omega arith))

pub loop-byte-preserved : goal.loop-byte-preserved
loop-byte-preserved c =
    let i = c.loop-byte.byte-index in
    let digit : is_ascii_digit (get_or c.args.bytes.now i 0) ≡ true = sym c.if-not-is_ascii_digit.ensures.value in
    let value = value_now c.args.bytes.now i c.loop-byte-test.true c.loop-byte.invariant.digits digit in
    let so_far = c.loop-byte.invariant.so_far in
    let sum = c.in_ok-value.ensures.1 in
    let tens = c.in_ok-checked_mul.ensures.1 in
    let read = c.from-digit.ensures in
    record {
      digits = digits_still c.args.bytes.now i c.loop-byte-test.true c.loop-byte.invariant.digits digit;
      fits = let low = c.in_ok-value.ensures.0 in let is = c.in_ok-value.ensures.1 in omega arith;
      so_far = omega arith;
    }

pub returns : goal.returns
returns c = digits_end c.args.bytes.now c.loop-byte.byte-index c.loop-byte.value (let past = c.loop-byte-test.false in omega arith) c.loop-byte.invariant.digits c.loop-byte.invariant.so_far c.loop-byte.invariant.fits
