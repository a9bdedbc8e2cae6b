-- The tables have the documents that the reader has returned.
use Rattle.std.proofs.Common.{◌≡◌, ◌-◌, None, length}
use Rattle.std.specs.List.{flat_map}
use Rattle.scip_index.specs.Streaming.{given}
use Rattle.index_store.specs.Queries.{occurrences_in}
use Rattle.index_store.specs.Stores.{tables_of, paths_of, AreComplete, Keeps}
use Rattle.index_store.proofs.builder.StoreBuilder.read_documents.Given as goal

abbrev pub invariant-documents : goal.invariant-documents
invariant-documents l = record {
  whole : AreComplete (tables_of l.self);
  retained : Keeps (paths_of (given l.reader)) (flat_map occurrences_in (given l.reader)) (tables_of l.self);
  sound : l.reader.error ≡ None;
  same : l.reader.bytes ≡ l.fn.reader.bytes;
}

abbrev pub decreases-documents : goal.decreases-documents
decreases-documents l = length l.reader.bytes - l.reader.at
