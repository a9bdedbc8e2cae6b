use Rattle.std.proofs.Common.{◌++◌, ◌∷◌, [], refl, sym}
use Rattle.std.proofs.lemmas.Result.{err_from_is_err_and}
use Rattle.std.proofs.lemmas.Bool.{eqb-true}
use Rattle.proto_wire.specs.Packed.{varint_to_int32}
use Rattle.proto_wire.proofs.PieceLaws.{some_from_test}
use Rattle.proto_wire.proofs.PackedLaws.{Counts-start, Counts-step, Counts-fault, Counts-end}
use Rattle.proto_wire.proofs.field.check_packed.Goals as goal

pub loop-rest-init : goal.loop-rest-init
loop-rest-init c = ([], Counts-start c.args.at c.args.payload.now)

pub returns-in_err-after-clause-err : goal.returns-in_err-after-clause-err
returns-in_err-after-clause-err c =
    let p = err_from_is_err_and c.from_residual.result c.from_residual.ensures.1 in
    let read = c.loop-rest.invariant in
    let fault = c.in_err-after.field-0.0 in
    rw (p.1, p.2) (Counts-fault c.args.at c.args.payload.now read.0 c.loop-rest.rest.now fault read.1 (some_from_test _ (sym c.loop-rest-test.ensures)) c.in_err-after.ensures.value)

pub loop-rest-preserved : goal.loop-rest-preserved
loop-rest-preserved c =
    let read = c.loop-rest.invariant in
    let here = c.in_ok-after in
    (read.0 ++ varint_to_int32 here.field-0-0 ∷ [], Counts-step c.args.at c.args.payload.now read.0 c.loop-rest.rest.now here.field-0-0 here.after.now read.1 here.ensures.value here.ensures.shorter)

pub returns-clause-clean : goal.returns-clause-clean
returns-clause-clean c =
    let read = c.loop-rest.invariant in
    rw (Counts-end c.args.at c.args.payload.now read.0 c.loop-rest.rest.now read.1 (eqb-true _ _ (sym c.loop-rest-test.ensures))) refl
