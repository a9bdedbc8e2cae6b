use Rattle.std.proofs.Common.{◌≡◌, ◌++◌, ◌∷◌, [], List, map, sym, ap, ◌∙◌, subst, append_assoc, arith}
use Rattle.std.specs.Prelude.{option_map}
use Rattle.std.specs.Option.{option_to_list}
use Rattle.std.proofs.lemmas.Result.{err_from_is_err_and}
use Rattle.std.proofs.lemmas.List.{append-nil}
use Rattle.std.proofs.lemmas.Bool.{eqb-true}
use Rattle.proto_wire.specs.Records.{PayloadRecord}
use Rattle.proto_wire.proofs.FaultLaws.{UnlessMemory-then}
use Rattle.scip_index.specs.Plain.{document_model, metadata_model, symbol_model, DocumentModel}
use Rattle.scip_index.specs.Streaming.{IsReaderAt, documents_in}
use Rattle.scip_index.proofs.StreamingLaws.{no_value, not_none}
use Rattle.scip_index.proofs.reader.next_document.Goals as goal

pub returns-in_err-document-clause-err : goal.returns-in_err-document-clause-err
returns-in_err-document-clause-err c =
    let q = err_from_is_err_and c.from_residual.result c.from_residual.ensures.1 in
    rw (q.1, q.2)
    (λ bytes front s.
    let k = c.records.invariant.skipped bytes front s in
    UnlessMemory-then c.in_err-document.field-0.0 (c.in_err-document.ensures.err bytes (front ++ k.0) k.1) (λ behind. (front ++ k.0, k.1.clean, behind, k.2)))

pub returns-then-is_some-clause-found : goal.returns-then-is_some-clause-found
returns-then-is_some-clause-found c = λ bytes front s.
    let here = c.in_ok-document in
    let k = c.records.invariant.skipped bytes front s in
    let t = here.ensures.taken bytes (front ++ k.0) k.1 in
    let same = append_assoc front k.0 (t.0 ∷ []) in
    let metadata = option_map metadata_model c.decode_first_record.new.metadata in
    let externals = map symbol_model c.decode_first_record.new.externals.items in (
      k.0 ++ t.0 ∷ [],
      subst (λ (ps : List PayloadRecord). IsReaderAt bytes ps here.next here.after.now metadata externals) same t.1,
      ap documents_in (sym same) ∙ t.2 ∙ ap (λ (ds : List DocumentModel). ds ++ map document_model (option_to_list here.document)) k.2,
      not_none here.document _ c.if-is_some.ensures,
    )

pub records-preserved : goal.records-preserved
records-preserved c =
    let here = c.in_ok-document in
    let none : option_to_list here.document ≡ [] = no_value here.document c.if-is_some.ensures in
    record {
      skipped = λ bytes front s.
          let k = c.records.invariant.skipped bytes front s in
          let t = here.ensures.taken bytes (front ++ k.0) k.1 in
          let same = append_assoc front k.0 (t.0 ∷ []) in
          let metadata = option_map metadata_model c.decode_first_record.new.metadata in
          let externals = map symbol_model c.decode_first_record.new.externals.items in (
            k.0 ++ t.0 ∷ [],
            subst (λ (ps : List PayloadRecord). IsReaderAt bytes ps here.next here.after.now metadata externals) same t.1,
            ap documents_in (sym same) ∙ t.2 ∙ ap (λ (ds : List DocumentModel). ds ++ map document_model (option_to_list here.document)) k.2
                ∙ ap (λ ds. documents_in front ++ map document_model ds) none ∙ append-nil (documents_in front),
          );
      inside = omega (arith, here.ensures.shorter.1, c.records.invariant.inside);
      below = omega (arith, here.ensures.shorter.0, c.records.invariant.below);
    }

pub returns-clause-found : goal.returns-clause-found
returns-clause-found c = λ bytes front s.
    let k = c.records.invariant.skipped bytes front s in (
      k.0,
      k.1,
      k.2 ∙ sym (append-nil (documents_in front)),
      eqb-true _ _ (sym c.records-test.ensures),
    )
