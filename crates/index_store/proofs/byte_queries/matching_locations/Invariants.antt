use Rattle.std.proofs.Common.{◌≡◌, ◌+◌, ◌++◌, length, map}
use Rattle.std.specs.List.{flat_map}
use Rattle.index_store.specs.Direct.{documents_of, locations_in_document, HaveTextPaths}
use Rattle.index_store.specs.Queries.{location_model}
use Rattle.index_store.proofs.byte_queries.matching_locations.Given as goal

abbrev pub invariant-loop-document : goal.invariant-loop-document
invariant-loop-document l = record {
  same : HaveTextPaths (documents_of l.index) → HaveTextPaths (documents_of l.rest) × (flat_map (locations_in_document l.lookup.defines l.lookup.local l.lookup.path.now l.lookup.symbol.now) (documents_of l.index)
      ≡ map location_model l.locations.items ++ flat_map (locations_in_document l.lookup.defines l.lookup.local l.lookup.path.now l.lookup.symbol.now) (documents_of l.rest));
  within : l.rest.start + length l.rest.bytes.now ≡ l.index.start + length l.index.bytes.now;
}

abbrev pub decreases-loop-document : goal.decreases-loop-document
decreases-loop-document l = length l.rest.bytes.now
