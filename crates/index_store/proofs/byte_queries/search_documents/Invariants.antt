use Rattle.std.proofs.Common.{◌≡◌, ◌+◌, None, length, fold}
use Rattle.std.specs.Prelude.{◌||◌, option_map}
use Rattle.index_store.specs.Direct.{documents_of, has_document, nearest_at, symbol_span_model}
use Rattle.index_store.proofs.byte_queries.search_documents.Given as goal

abbrev pub invariant-loop-document : goal.invariant-loop-document
invariant-loop-document l = record {
  has : has_document l.path (documents_of l.index) ≡ (l.found.has_path || has_document l.path (documents_of l.rest));
  same : fold (nearest_at l.path l.at) None (documents_of l.index) ≡ fold (nearest_at l.path l.at) (option_map symbol_span_model l.found.best) (documents_of l.rest);
  within : l.rest.start + length l.rest.bytes.now ≡ l.index.start + length l.index.bytes.now;
}

abbrev pub decreases-loop-document : goal.decreases-loop-document
decreases-loop-document l = length l.rest.bytes.now
