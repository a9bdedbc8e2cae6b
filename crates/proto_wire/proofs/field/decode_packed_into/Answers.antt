use Rattle.std.specs.Int.{w32, cast_unsigned}
use Rattle.std.proofs.lemmas.Int.{of_z-to_z}
use Rattle.std.proofs.Common.{◌≡◌, ◌%◌, ◌^◌, ◌++◌, ◌∷◌, [], refl, sym, arith, append_assoc}
use Rattle.std.proofs.lemmas.Result.{err_from_is_err_and}
use Rattle.std.proofs.lemmas.List.{append-nil}
use Rattle.std.proofs.lemmas.Bool.{eqb-true}
use Rattle.proto_wire.specs.Packed.{varint_to_int32}
use Rattle.proto_wire.proofs.PieceLaws.{some_from_test}
use Rattle.proto_wire.proofs.FaultLaws.{UnlessMemory-from}
use Rattle.proto_wire.proofs.PackedLaws.{Counts-start, Counts-step, Counts-fault, Counts-end}
use Rattle.proto_wire.proofs.field.decode_packed_into.Goals as goal

pub loop-rest-init : goal.loop-rest-init
loop-rest-init c = ([], sym (append-nil _), Counts-start c.args.at c.args.payload.now)

pub returns-in_err-number-clause-err : goal.returns-in_err-number-clause-err
returns-in_err-number-clause-err c =
    let p = err_from_is_err_and c.from_residual.result c.from_residual.ensures.1 in
    let read = c.loop-rest.invariant in
    let fault = c.in_err-number.field-0.0 in
    rw (p.1, p.2)
    (UnlessMemory-from fault
    (Counts-fault c.args.at c.args.payload.now read.0 c.loop-rest.rest.now fault read.2 (some_from_test _ (sym c.loop-rest-test.ensures)) c.in_err-number.ensures.value))

pub loop-rest-preserved : goal.loop-rest-preserved
loop-rest-preserved c =
    let read = c.loop-rest.invariant in
    let here = c.in_ok-number in
    let back : cast_unsigned w32 (varint_to_int32 here.number) ≡ here.number % 2 ^ 32 = of_z-to_z w32 (here.number % 2 ^ 32) (omega arith) in (
      read.0 ++ varint_to_int32 here.number ∷ [],
      rw (c.in_ok-push.ensures.items, read.1, c.varint_to_int32.ensures, back) (append_assoc _ read.0 (varint_to_int32 here.number ∷ [])),
      Counts-step c.args.at c.args.payload.now read.0 c.loop-rest.rest.now here.number here.after.now read.2 here.ensures.value here.ensures.shorter,
    )

pub returns-clause-clean : goal.returns-clause-clean
returns-clause-clean c =
    let read = c.loop-rest.invariant in
    rw (Counts-end c.args.at c.args.payload.now read.0 c.loop-rest.rest.now read.2 (eqb-true _ _ (sym c.loop-rest-test.ensures))) refl

pub returns-clause-numbers : goal.returns-clause-numbers
returns-clause-numbers c =
    let read = c.loop-rest.invariant in
    rw (Counts-end c.args.at c.args.payload.now read.0 c.loop-rest.rest.now read.2 (eqb-true _ _ (sym c.loop-rest-test.ensures))) read.1
