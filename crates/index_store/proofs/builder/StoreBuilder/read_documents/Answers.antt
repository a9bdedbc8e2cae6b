-- One document after another, until the bytes end.
use Rattle.std.proofs.Common.{◌∙◌}
use Rattle.std.specs.List.{flat_map}
use Rattle.scip_index.specs.Plain.{document_model}
use Rattle.scip_index.specs.Streaming.{given}
use Rattle.index_store.specs.Queries.{occurrences_in}
use Rattle.index_store.specs.Stores.{tables_of, paths_of}
use Rattle.index_store.proofs.StoreLemmas.{kept_more}
use Rattle.index_store.proofs.builder.StoreBuilder.read_documents.Goals as goal

pub documents-preserved : goal.documents-preserved
documents-preserved c =
    let i = c.documents.invariant in
    let old = given c.documents.reader in
    let now = given c.next.new.self in
    let d = document_model c.in-Some.document in
    let sound = i.sound in
    let next = rw (sound, c.in-Some.is) at c.in_ok-document.ensures.found in
    record {
      whole = c.in_ok-add_document.ensures.whole;
      retained = kept_more old now d (tables_of c.add_document.new.self) next (c.in_ok-add_document.ensures.retained (paths_of old) (flat_map occurrences_in old) i.retained);
      sound = c.in_ok-document.ensures.retained;
      same = c.in_ok-document.ensures.same ∙ i.same;
    }
