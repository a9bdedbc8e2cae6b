use Rattle.std.proofs.Common.{◌≡◌, ◌+◌, ◌++◌, length}
use Rattle.proto_wire.specs.MessageBytes.{records_of}
use Rattle.proto_wire.specs.Messages.{field_values, numbers_in}
use Rattle.proto_wire.proofs.inside.read_field_numbers.Given as goal

abbrev pub invariant-loop-wire : goal.invariant-loop-wire
invariant-loop-wire l = record {
  same : field_values l.field numbers_in (records_of l.message) ≡ l.numbers.items ++ field_values l.field numbers_in (records_of l.rest);
  within : l.rest.start + length l.rest.bytes.now ≡ l.message.start + length l.message.bytes.now;
}

abbrev pub decreases-loop-wire : goal.decreases-loop-wire
decreases-loop-wire l = length l.rest.bytes.now
