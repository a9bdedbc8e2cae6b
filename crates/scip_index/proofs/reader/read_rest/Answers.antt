use Rattle.std.proofs.Common.{◌++◌, ◌∷◌, [], List, map, sym, subst, append_assoc, arith}
use Rattle.std.specs.Prelude.{option_map}
use Rattle.std.proofs.lemmas.Result.{err_from_is_err_and}
use Rattle.std.proofs.lemmas.Bool.{eqb-true}
use Rattle.proto_wire.specs.Records.{PayloadRecord}
use Rattle.proto_wire.proofs.FaultLaws.{UnlessMemory-then}
use Rattle.scip_index.specs.Plain.{metadata_model, symbol_model}
use Rattle.scip_index.specs.Streaming.{IsReaderAt}
use Rattle.scip_index.proofs.StreamingLaws.{ended}
use Rattle.scip_index.proofs.reader.read_rest.Goals as goal

pub returns-in_err-next-clause-err : goal.returns-in_err-next-clause-err
returns-in_err-next-clause-err c =
    let q = err_from_is_err_and c.from_residual.result c.from_residual.ensures.1 in
    rw (q.1, q.2)
    (λ bytes front s.
    let k = c.records.invariant.skipped bytes front s in
    UnlessMemory-then c.in_err-next.field-0.0 (c.in_err-next.ensures.err bytes (front ++ k.0) k.1) (λ behind. (front ++ k.0, k.1.clean, behind)))

pub records-preserved : goal.records-preserved
records-preserved c =
    let here = c.in_ok-next in
    record {
      skipped = λ bytes front s.
          let k = c.records.invariant.skipped bytes front s in
          let t = here.ensures.taken bytes (front ++ k.0) k.1 in
          let same = append_assoc front k.0 (t.0 ∷ []) in
          let metadata = option_map metadata_model c.decode_first_record.new.metadata in
          let externals = map symbol_model c.decode_first_record.new.externals.items in (
            k.0 ++ t.0 ∷ [],
            subst (λ (ps : List PayloadRecord). IsReaderAt bytes ps here.next here.after.now metadata externals) same t.1,
          );
      inside = omega (arith, here.ensures.shorter.1, c.records.invariant.inside);
    }

pub returns-clause-read : goal.returns-clause-read
returns-clause-read c = λ bytes front s.
    let k = c.records.invariant.skipped bytes front s in
    let e = ended bytes (front ++ k.0) _ _ _ _ k.1 (eqb-true _ _ (sym c.records-test.ensures)) in
    (e.0, e.1, e.2, e.3)
