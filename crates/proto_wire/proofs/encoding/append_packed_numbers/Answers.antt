use Rattle.std.proofs.Common.{◌++◌, pos, ap, ◌∙◌, subst, rules, take_all, arith}
use Rattle.std.proofs.lemmas.Grind.{common_steps}
use Rattle.std.specs.Prelude.{FitsSigned}
use Rattle.std.specs.Int.{w32}
use Rattle.std.specs.List.{AllByRecursion}
use Rattle.proto_wire.specs.Writing.{packed_payload}
use Rattle.proto_wire.proofs.EachLaws.{each-more}
use Rattle.proto_wire.proofs.encoding.append_packed_numbers.Goals as goal

pub loop-number-preserved : goal.loop-number-preserved
loop-number-preserved c = record {
  bytes = grind (arith, common_steps);
  fits = each-more (FitsSigned w32) c.args.numbers.now c.loop-number.number-index (pos 0) c.loop-number-test.true c.loop-number.invariant.fits (search rules);
}

pub returns-clause-bytes : goal.returns-clause-bytes
returns-clause-bytes c = c.loop-number.invariant.bytes ∙ ap (λ zs. c.args.out.now.items ++ packed_payload zs) (take_all c.loop-number.number-index c.args.numbers.now c.loop-number-test.false)

pub returns-clause-fits : goal.returns-clause-fits
returns-clause-fits c = subst (AllByRecursion (FitsSigned w32)) (take_all c.loop-number.number-index c.args.numbers.now c.loop-number-test.false) c.loop-number.invariant.fits
