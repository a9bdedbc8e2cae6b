use Rattle.std.proofs.Common.{◌++◌, ◌∷◌, [], Some, None, List, subst, refl, sym, arith, append_assoc}
use Rattle.std.proofs.lemmas.Result.{err_from_is_err_and}
use Rattle.std.proofs.lemmas.List.{append-nil}
use Rattle.std.proofs.lemmas.Bool.{eqb-true}
use Rattle.proto_wire.specs.Messages.{payload_record}
use Rattle.proto_wire.specs.Records.{PayloadRecord}
use Rattle.proto_wire.proofs.PieceLaws.{some_from_test}
use Rattle.proto_wire.proofs.PieceReadings.{records_found, stop_found}
use Rattle.proto_wire.proofs.RowLaws.{IsSplit-start, IsSplit-step, IsSplit-fault, IsSplit-end}
use Rattle.proto_wire.proofs.MessageLaws.{IsClean-push, fault_of-end, fault_of-inside}
use Rattle.proto_wire.proofs.FaultLaws.{UnlessMemory-from, UnlessMemory-then}
use Rattle.proto_wire.proofs.message.decode_into.Goals as goal

pub loop-rest-init : goal.loop-rest-init
loop-rest-init g c = record {
  read = ([], tt, λ before h. rw append-nil h, IsSplit-start c.args.start c.args.bytes.now);
  inside = refl;
}

pub returns-in_err-wire-clause-err : goal.returns-in_err-wire-clause-err
returns-in_err-wire-clause-err g c =
    let p = err_from_is_err_and c.from_residual.result c.from_residual.ensures.1 in
    let read = c.loop-rest.invariant.read in
    let inside = g.M.Message.fault_in in
    let fault = c.in_err-wire.field-0.0 in
    rw (p.1, p.2)
    (UnlessMemory-from fault
    (fault_of-end inside c.args.start c.args.bytes.now read.0 (Some fault) read.1
    (stop_found c.args.start c.args.bytes.now read.0 fault (IsSplit-fault c.args.start c.args.bytes.now read.0 c.loop-rest.at c.loop-rest.rest.now fault read.3 (some_from_test _ (sym c.loop-rest-test.ensures)) c.in_err-wire.ensures.exact))))

pub returns-in_err-decode_record-clause-err : goal.returns-in_err-decode_record-clause-err
returns-in_err-decode_record-clause-err g c =
    let p = err_from_is_err_and c.from_residual-in_err-decode_record.result c.from_residual-in_err-decode_record.ensures.1 in
    let read = c.loop-rest.invariant.read in
    let inside = g.M.Message.fault_in in
    let fault = c.in_err-decode_record.field-0.0 in
    let here = c.in_ok-wire in
    let taken = payload_record here.wire here.payload.now in
    rw (p.1, p.2)
    (UnlessMemory-then fault c.in_err-decode_record.ensures.err
    (λ e. fault_of-inside inside c.args.start c.args.bytes.now read.0 taken _ here.after.now fault read.1
    (IsSplit-step c.args.start c.args.bytes.now read.0 c.loop-rest.at c.loop-rest.rest.now taken here.after.now read.3 here.ensures.exact) e))

pub loop-rest-preserved : goal.loop-rest-preserved
loop-rest-preserved g c =
    let read = c.loop-rest.invariant.read in
    let here = c.in_ok-wire in
    let taken = payload_record here.wire here.payload.now in
    let now = c.decode_record.new.self in
    record {
      read = (
        read.0 ++ taken ∷ [],
        IsClean-push g.M.Message.fault_in read.0 taken read.1 c.in_ok-decode_record.ensures.clean,
        λ before h. subst (λ (ps : List PayloadRecord). g.M.Message.means now ps) (append_assoc before read.0 (taken ∷ [])) (c.in_ok-decode_record.ensures.means (before ++ read.0) (read.2 before h)),
        IsSplit-step c.args.start c.args.bytes.now read.0 c.loop-rest.at c.loop-rest.rest.now taken here.after.now read.3 here.ensures.exact,
      );
      inside = omega (arith, here.ensures.shorter);
    }

pub returns-clause-clean : goal.returns-clause-clean
returns-clause-clean g c =
    let read = c.loop-rest.invariant.read in
    fault_of-end g.M.Message.fault_in c.args.start c.args.bytes.now read.0 None read.1 (records_found c.args.start c.args.bytes.now read.0 (IsSplit-end c.args.start c.args.bytes.now read.0 c.loop-rest.at c.loop-rest.rest.now read.3 (eqb-true _ _ (sym c.loop-rest-test.ensures))))

pub returns-clause-means : goal.returns-clause-means
returns-clause-means g c =
    let read = c.loop-rest.invariant.read in
    let whole = records_found c.args.start c.args.bytes.now read.0 (IsSplit-end c.args.start c.args.bytes.now read.0 c.loop-rest.at c.loop-rest.rest.now read.3 (eqb-true _ _ (sym c.loop-rest-test.ensures))) in
    λ before h. rw whole (read.2 before h)
