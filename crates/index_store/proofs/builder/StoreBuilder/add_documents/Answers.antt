-- One document after another.
use Rattle.std.proofs.Common.{map, take}
use Rattle.std.specs.List.{flat_map}
use Rattle.scip_index.specs.Plain.{document_model}
use Rattle.index_store.specs.Queries.{occurrences_in}
use Rattle.index_store.specs.Stores.{paths_of}
use Rattle.index_store.proofs.StoreLemmas.{documents_more}
use Rattle.index_store.proofs.builder.StoreBuilder.add_documents.Goals as goal

pub loop-document-init : goal.loop-document-init
loop-document-init c = (c.requires.whole, c.requires.nothing)

pub loop-document-preserved : goal.loop-document-preserved
loop-document-preserved c =
    let items = c.args.documents.now in
    let k = c.loop-document.document-index in
    let more = documents_more items k c.document-item.result c.loop-document-test.true c.document-item.is in
    let documents = map document_model (take k items) in
    (c.in_ok-add_document.ensures.whole, rw (← more.0, ← more.1) (c.in_ok-add_document.ensures.retained (paths_of documents) (flat_map occurrences_in documents) c.loop-document.invariant.1))
