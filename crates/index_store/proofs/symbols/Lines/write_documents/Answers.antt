use Rattle.std.proofs.Common.{◌++◌, ◌∙◌, List, ap, map, refl, rules, subst}
use Rattle.std.specs.Prelude.{option_copied}
use Rattle.std.specs.List.{flat_map}
use Rattle.std.proofs.lemmas.Result.{err_from_is_err_and}
use Rattle.proto_wire.specs.MessageBytes.{records_of}
use Rattle.proto_wire.specs.Records.{PayloadRecord}
use Rattle.scip_index.specs.Meaning.{document_of}
use Rattle.texts.specs.Places.{writer_style}
use Rattle.byte_sink.proofs.Joining.{front_joined, joined}
use Rattle.index_store.specs.Symbols.{lines_of_document, AreTextDocuments}
use Rattle.index_store.proofs.SymbolLaws.{lines_behind}
use Rattle.index_store.proofs.symbols.Lines.write_documents.Goals as goal

pub loop-document-preserved : goal.loop-document-preserved
loop-document-preserved g c =
    let so_far = c.loop-document.invariant.gathered in
    let here = lines_of_document (writer_style c.args.self.now.locations) (option_copied c.args.requested) (document_of (records_of c.in-Some.document)) in
    let behind = ap (λ (pss : List (List PayloadRecord)). flat_map (lines_of_document (writer_style c.args.self.now.locations) (option_copied c.args.requested)) (map document_of pss)) c.in-Some.ensures.some in
    record {
      gathered = (so_far.0 ++ here, lines_behind _ so_far.0 _ here _ so_far.1 behind, joined _ _ _ _ so_far.0 here _ _ (so_far.0 ++ here) refl so_far.2 (rw c.loop-document.invariant.style at c.in_ok-write_document.ensures.gathered));
      texts = (subst (λ (pss : List (List PayloadRecord)). AreTextDocuments (map document_of pss)) c.in-Some.ensures.some c.loop-document.invariant.texts).1;
      style = c.in_ok-write_document.ensures.style ∙ c.loop-document.invariant.style;
      failures = search rules;
      within = search rules;
    }

pub returns-in_err-write_document-clause-error_prefix : goal.returns-in_err-write_document-clause-error_prefix
returns-in_err-write_document-clause-error_prefix g c =
    let p = err_from_is_err_and c.from_residual.result c.from_residual.ensures.1 in
    let so_far = c.loop-document.invariant.gathered in
    let here = lines_of_document (writer_style c.args.self.now.locations) (option_copied c.args.requested) (document_of (records_of c.in-Some.document)) in
    let behind = ap (λ (pss : List (List PayloadRecord)). flat_map (lines_of_document (writer_style c.args.self.now.locations) (option_copied c.args.requested)) (map document_of pss)) c.in-Some.ensures.some in
    rw p.1 (front_joined _ _ _ _ so_far.0 here _ _ _ (lines_behind _ so_far.0 _ here _ so_far.1 behind) so_far.2 (rw c.loop-document.invariant.style at c.in_err-write_document.ensures.error_prefix))
