use Rattle.std.proofs.Common.{◌≡◌, ◌≤◌, ◌+◌, length}
use Rattle.proto_wire.specs.MessageBytes.{records_of}
use Rattle.proto_wire.specs.Messages.{field_values, nested_records}
use Rattle.proto_wire.proofs.inside.next_message.Given as goal

abbrev pub invariant-loop-wire : goal.invariant-loop-wire
invariant-loop-wire l = record {
  same : field_values l.field nested_records (records_of l.initial.rest) ≡ field_values l.field nested_records (records_of l.rest);
  within : l.rest.start + length l.rest.bytes.now ≡ l.initial.rest.start + length l.initial.rest.bytes.now;
  shorter : length l.rest.bytes.now ≤ length l.initial.rest.bytes.now;
}

abbrev pub decreases-loop-wire : goal.decreases-loop-wire
decreases-loop-wire l = length l.rest.bytes.now
