use Rattle.std.proofs.Common.{◌≡◌, ◌++◌, map, take}
use Rattle.std.specs.List.{AllByRecursion}
use Rattle.proto_wire.specs.Writing.{spelled_fields, payload_fields}
use Rattle.proto_wire.proofs.field_encoding.append_messages.Given as goal

abbrev pub invariant-loop-message : goal.invariant-loop-message
invariant-loop-message g l = record {
  bytes : l.out.items ≡ l.initial.out.items ++ spelled_fields (payload_fields l.field (map g.M.Written.written (take l.message-index l.messages)));
  fits : AllByRecursion g.M.Written.fits (take l.message-index l.messages);
}
