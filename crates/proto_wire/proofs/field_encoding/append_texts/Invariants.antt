use Rattle.std.proofs.Common.{◌≡◌, ◌++◌, map, take}
use Rattle.std.specs.String.{string_bytes}
use Rattle.proto_wire.specs.Writing.{spelled_fields, payload_fields}
use Rattle.proto_wire.proofs.field_encoding.append_texts.Given as goal

abbrev pub invariant-loop-text : goal.invariant-loop-text
invariant-loop-text l = l.out.items ≡ l.initial.out.items ++ spelled_fields (payload_fields l.field (map string_bytes (take l.text-index l.texts)))
