-- The tables have the documents so far.
use Rattle.std.proofs.Common.{map, take}
use Rattle.std.specs.List.{flat_map}
use Rattle.scip_index.specs.Plain.{document_model}
use Rattle.index_store.specs.Queries.{occurrences_in}
use Rattle.index_store.specs.Stores.{tables_of, paths_of, AreComplete, Keeps}
use Rattle.index_store.proofs.builder.StoreBuilder.add_documents.Given as goal

abbrev pub invariant-loop-document : goal.invariant-loop-document
invariant-loop-document l =
    let documents = map document_model (take l.document-index l.documents) in
    AreComplete (tables_of l.self) × Keeps (paths_of documents) (flat_map occurrences_in documents) (tables_of l.self)
