use Rattle.std.proofs.Common.{◌≡◌, ◌+◌, [], length, map}
use Rattle.std.specs.Prelude.{option_map}
use Rattle.proto_wire.specs.MessageBytes.{records_of}
use Rattle.proto_wire.specs.Messages.{bytes_in, field_values, latest, nested_records}
use Rattle.scip_index.specs.Meaning.{occurrence_of}
use Rattle.index_store.specs.Direct.{nearest_of, symbol_span_model}
use Rattle.index_store.proofs.byte_queries.find_nearest_and_path.Given as goal

abbrev pub invariant-loop-occurrence : goal.invariant-loop-occurrence
invariant-loop-occurrence l = record {
  same : nearest_of l.at (option_map symbol_span_model l.initial.best) (map occurrence_of (field_values 2 nested_records (records_of l.document))) ≡ nearest_of l.at (option_map symbol_span_model l.best) (map occurrence_of (field_values 2 nested_records (records_of l.rest)));
  path_same : latest [] (field_values 1 bytes_in (records_of l.document)) ≡ latest l.path (field_values 1 bytes_in (records_of l.rest));
  within : l.rest.start + length l.rest.bytes.now ≡ l.document.start + length l.document.bytes.now;
}

abbrev pub decreases-loop-occurrence : goal.decreases-loop-occurrence
decreases-loop-occurrence l = length l.rest.bytes.now
