-- A message as its bytes and their offset.
use Rattle.std.specs.Prelude.{◌≡◌, List, ◌∷◌}
use Rattle.proto_wire.specs.declared.inside.MessageBytes.{MessageBytes}
use Rattle.proto_wire.specs.Records.{PayloadRecord}
use Rattle.proto_wire.specs.Readings.{payload_records}

-- the records of a message, up to the first wrong one
abbrev pub records_of : MessageBytes → List PayloadRecord
records_of m = (payload_records m.start m.bytes.now).0

-- the message is the record p followed by the records of rest, and its fault, if any, is that of rest
abbrev pub IsRecordBefore : MessageBytes → MessageBytes → PayloadRecord → Type 0
IsRecordBefore m rest p =
    payload_records m.start m.bytes.now ≡ (p ∷ (payload_records rest.start rest.bytes.now).0, (payload_records rest.start rest.bytes.now).1)
