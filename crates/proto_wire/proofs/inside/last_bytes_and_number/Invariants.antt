use Rattle.std.proofs.Common.{◌≡◌, ◌+◌, [], length, pos}
use Rattle.proto_wire.specs.MessageBytes.{records_of}
use Rattle.proto_wire.specs.Messages.{bytes_in, field_values, latest, number_in}
use Rattle.proto_wire.proofs.inside.last_bytes_and_number.Given as goal

abbrev pub invariant-loop-wire : goal.invariant-loop-wire
invariant-loop-wire l = record {
  text : latest [] (field_values l.text_field bytes_in (records_of l.message)) ≡ latest l.text (field_values l.text_field bytes_in (records_of l.rest));
  number : latest (pos 0) (field_values l.number_field number_in (records_of l.message)) ≡ latest l.number (field_values l.number_field number_in (records_of l.rest));
  within : l.rest.start + length l.rest.bytes.now ≡ l.message.start + length l.message.bytes.now;
}

abbrev pub decreases-loop-wire : goal.decreases-loop-wire
decreases-loop-wire l = length l.rest.bytes.now
