use Rattle.std.proofs.Common.{◌++◌, ap, ◌∙◌, take_all, arith}
use Rattle.std.proofs.lemmas.Grind.{common_steps}
use Rattle.proto_wire.specs.Writing.{packed_payload}
use Rattle.scip_index.proofs.in_place.PackedNumbersWritten.encode_into.Goals as goal

pub loop-number-preserved : goal.loop-number-preserved
loop-number-preserved c = grind (arith, common_steps)

pub returns-clause-bytes : goal.returns-clause-bytes
returns-clause-bytes c =
    c.loop-number.invariant
    ∙ ap (λ zs. c.args.out.now.items ++ packed_payload zs) (take_all c.loop-number.number-index c.args.self.now.numbers.now c.loop-number-test.false)
