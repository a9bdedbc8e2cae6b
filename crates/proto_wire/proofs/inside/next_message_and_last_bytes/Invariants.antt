use Rattle.std.proofs.Common.{◌≡◌, ◌≤◌, ◌+◌, length}
use Rattle.proto_wire.specs.MessageBytes.{records_of}
use Rattle.proto_wire.specs.Messages.{bytes_in, field_values, latest, nested_records}
use Rattle.proto_wire.proofs.inside.next_message_and_last_bytes.Given as goal

abbrev pub invariant-loop-wire : goal.invariant-loop-wire
invariant-loop-wire l = record {
  same : field_values l.field nested_records (records_of l.initial.rest) ≡ field_values l.field nested_records (records_of l.rest);
  latest_same : latest l.before (field_values l.bytes_field bytes_in (records_of l.initial.rest)) ≡ latest l.last (field_values l.bytes_field bytes_in (records_of l.rest));
  within : l.rest.start + length l.rest.bytes.now ≡ l.initial.rest.start + length l.initial.rest.bytes.now;
  shorter : length l.rest.bytes.now ≤ length l.initial.rest.bytes.now;
}

abbrev pub decreases-loop-wire : goal.decreases-loop-wire
decreases-loop-wire l = length l.rest.bytes.now
