use Rattle.std.proofs.Common.{◌≡◌, ◌+◌, length}
use Rattle.index_store.specs.Direct.{documents_of, has_document}
use Rattle.index_store.proofs.byte_queries.has_document.Given as goal

abbrev pub invariant-loop-document : goal.invariant-loop-document
invariant-loop-document l = record {
  same : has_document l.path (documents_of l.index) ≡ has_document l.path (documents_of l.rest);
  within : l.rest.start + length l.rest.bytes.now ≡ l.index.start + length l.index.bytes.now;
}

abbrev pub decreases-loop-document : goal.decreases-loop-document
decreases-loop-document l = length l.rest.bytes.now
