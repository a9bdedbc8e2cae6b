use Rattle.std.proofs.Common.{◌≡◌, ◌+◌, ◌++◌, [], length, map}
use Rattle.std.specs.List.{flat_map}
use Rattle.proto_wire.specs.MessageBytes.{records_of}
use Rattle.proto_wire.specs.Messages.{bytes_in, field_values, latest, nested_records}
use Rattle.scip_index.specs.Meaning.{occurrence_of}
use Rattle.index_store.specs.Direct.{location_of_symbol}
use Rattle.index_store.specs.Queries.{location_model}
use Rattle.index_store.proofs.byte_queries.append_matching_locations.Given as goal

abbrev pub invariant-loop-occurrence : goal.invariant-loop-occurrence
invariant-loop-occurrence l = record {
  same : map location_model l.initial.locations.items ++ flat_map (location_of_symbol l.lookup.defines l.lookup.symbol.now l.path) (map occurrence_of (field_values 2 nested_records (records_of l.document)))
      ≡ map location_model l.locations.items ++ flat_map (location_of_symbol l.lookup.defines l.lookup.symbol.now l.path) (map occurrence_of (field_values 2 nested_records (records_of l.rest)));
  path_same : latest [] (field_values 1 bytes_in (records_of l.document)) ≡ latest l.last (field_values 1 bytes_in (records_of l.rest));
  within : l.rest.start + length l.rest.bytes.now ≡ l.document.start + length l.document.bytes.now;
}

abbrev pub decreases-loop-occurrence : goal.decreases-loop-occurrence
decreases-loop-occurrence l = length l.rest.bytes.now
