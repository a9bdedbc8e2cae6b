use Rattle.std.proofs.Common.{◌≡◌, ◌+◌, length}
use Rattle.proto_wire.specs.MessageBytes.{records_of}
use Rattle.proto_wire.specs.Messages.{bytes_in, field_values}
use Rattle.index_store.proofs.byte_queries.has_no_symbol_record.Given as goal

abbrev pub invariant-loop : goal.invariant-loop
invariant-loop l = record {
  same : field_values 2 bytes_in (records_of l.left) ≡ field_values 2 bytes_in (records_of l.rest);
  within : l.rest.start + length l.rest.bytes.now ≡ l.left.start + length l.left.bytes.now;
}
