use Rattle.std.proofs.Common.{inl, inr, arith}
use Rattle.texts.proofs.FieldNumbers.{number_stands}
use Rattle.texts.proofs.prefixes.finish_number.Goals as goal

pub returns : goal.returns
returns c =
    rw c.split_at.ensures.back (number_stands c.args.text.now c.args.end c.args.value c.requires.within c.requires.ends c.requires.digits c.requires.value c.ranges.value.fits
    (let some = c.if-end-eq0.false in omega (arith, some)) (λ z. elim c.if-end-ne1.either [
      | inl p ↦ p.1
      | inr q ↦ absurd (q z)
    ]))
