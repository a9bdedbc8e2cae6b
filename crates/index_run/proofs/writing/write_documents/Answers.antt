use Rattle.std.proofs.Common.{◌≡◌, ◌∷◌, [], sym, ◌∙◌, append_assoc, rules}
use Rattle.std.specs.Vec.Iter.{into_iter_items}
use Rattle.std.proofs.lemmas.List.{nil_from_length}
use Rattle.std.proofs.lemmas.List.Folds.{flat_map-map}
use Rattle.std.proofs.lemmas.Result.{err_from_is_err_and}
use Rattle.scip_index.specs.Plain.{document_model}
use Rattle.scip_index.specs.Written.{document_part}
use Rattle.index_run.proofs.InRow.{all_put, front_put, one_put}
use Rattle.index_run.proofs.Documents.{nothing_refused, part, parts}
use Rattle.index_run.proofs.writing.write_documents.Goals as goal

pub returns-in_err-document-clause-writes : goal.returns-in_err-document-clause-writes
returns-in_err-document-clause-writes g c =
    let at = c.loop-document in
    let p = err_from_is_err_and c.from_residual.result c.from_residual.ensures.1 in
    rw p.1
    (front_put part _ _ at.yielded at.invariant.taken c.args.documents.items _ (at.invariant.whole ∙ c.into_iter-document-iterator.ensures.into_iter_gives.0) (parts c.args.documents.items)
    (flat_map-map document_part document_model c.args.documents.items) _ c.in-Some.document _ c.in-Some.ensures.steps.0 (rw at.invariant.well at c.in_err-document.ensures.writes))

pub loop-document-preserved : goal.loop-document-preserved
loop-document-preserved g c =
    let at = c.loop-document in
    let steps : into_iter_items at.document-iterator ≡ c.in-Some.document ∷ into_iter_items c.next.new.self = c.in-Some.ensures.steps.0 in
    record {
      stage = c.in_ok-document.ensures.stage;
      well = nothing_refused _ c.in_ok-document.ensures.retained;
      taken = one_put part _ _ at.yielded at.invariant.taken _ c.in-Some.document (rw at.invariant.well at c.in_ok-document.ensures.writes);
      failures = search rules;
      whole = append_assoc at.yielded (c.in-Some.document ∷ []) _ ∙ rw (← steps) at.invariant.whole;
    }

pub returns-clause-writes : goal.returns-clause-writes
returns-clause-writes g c =
    let at = c.loop-document in
    all_put part _ _ at.yielded at.invariant.taken c.args.documents.items _ (at.invariant.whole ∙ c.into_iter-document-iterator.ensures.into_iter_gives.0) (parts c.args.documents.items)
    (flat_map-map document_part document_model c.args.documents.items) (nil_from_length _ (sym at.document-iterator.rest.ok.0 ∙ c.in-None.ensures.steps.0))
