use Rattle.std.proofs.Common.{◌++◌, ◌∷◌, [], Ok, Err, sym, arith}
use Rattle.std.proofs.lemmas.Result.{err_from_is_err_and}
use Rattle.std.proofs.lemmas.List.{map_push}
use Rattle.std.proofs.lemmas.Bool.{eqb-true}
use Rattle.proto_wire.specs.Records.{PayloadRecord}
use Rattle.proto_wire.proofs.FaultLaws.{UnlessMemory-from}
use Rattle.proto_wire.proofs.PieceLaws.{some_from_test}
use Rattle.proto_wire.proofs.RowLaws.{IsSplit-start, IsSplit-step, IsSplit-fault, IsSplit-end}
use Rattle.proto_wire.proofs.PieceReadings.{outcome_is_unique}
use Rattle.proto_wire.proofs.record.records.Goals as goal

pub loop-rest-init : goal.loop-rest-init
loop-rest-init c = record { read = ([], c.new-found.ensures.items, IsSplit-start 0 c.args.bytes.now); inside = omega arith }

pub returns-in_err-record : goal.returns-in_err-record
returns-in_err-record c =
    let p = err_from_is_err_and c.from_residual.result c.from_residual.ensures.1 in
    let read = c.loop-rest.invariant.read in
    let fault = c.in_err-record.field-0.0 in
    let stopped = IsSplit-fault 0 c.args.bytes.now read.0 c.loop-rest.at c.loop-rest.rest.now fault read.2 (some_from_test _ (sym c.loop-rest-test.ensures)) c.in_err-record.ensures.exact in
    rw (p.1, p.2) (record {
      exact = UnlessMemory-from fault (read.0, stopped);
      only = λ o h. UnlessMemory-from fault (outcome_is_unique c.args.bytes.now (Err fault) o (read.0, stopped) h);
    })

pub loop-rest-preserved : goal.loop-rest-preserved
loop-rest-preserved c =
    let read = c.loop-rest.invariant.read in
    let here = c.in_ok-record in
    let p : PayloadRecord = record { wire = here.record; payload = here.field-0-1.now } in
    record {
      read = (read.0 ++ p ∷ [], rw c.in_ok-push.ensures.items (rw read.1 (sym (map_push _ read.0 p))), IsSplit-step 0 c.args.bytes.now read.0 c.loop-rest.at c.loop-rest.rest.now p here.after.now read.2 here.ensures.exact);
      inside = omega (arith, here.ensures.shorter);
    }

pub returns : goal.returns
returns c =
    let read = c.loop-rest.invariant.read in
    let bytes = c.args.bytes.now in
    let whole = IsSplit-end 0 bytes read.0 c.loop-rest.at c.loop-rest.rest.now read.2 (eqb-true _ _ (sym c.loop-rest-test.ensures)) in
    record { exact = (read.0, whole, read.1); only = λ o h. outcome_is_unique bytes (Ok c.loop-rest.found.items) o (read.0, whole, read.1) h }
