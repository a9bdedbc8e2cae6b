use Rattle.std.proofs.Common.{◌≡◌, true, get_or, sym, arith}
use Rattle.std.specs.Char.{is_ascii_digit}
use Rattle.texts.proofs.FieldNumbers.{digits_still, value_now}
use Rattle.texts.proofs.prefixes.parse_number.Goals as goal

pub loop-at-preserved : goal.loop-at-preserved
loop-at-preserved c =
    let i = c.loop-at.at in
    let digit : is_ascii_digit (get_or c.args.text.now i 0) ≡ true = sym c.if-not-is_ascii_digit.ensures.value in
    let value = value_now c.args.text.now i c.loop-at-test.true c.loop-at.invariant.digits digit in
    let so_far = c.loop-at.invariant.so_far in
    let sum = c.in_ok-value.ensures.1 in
    let tens = c.in_ok-checked_mul.ensures.1 in
    let read = c.from-digit.ensures in
    record {
      digits = digits_still c.args.text.now i c.loop-at-test.true c.loop-at.invariant.digits digit;
      so_far = omega arith;
    }
