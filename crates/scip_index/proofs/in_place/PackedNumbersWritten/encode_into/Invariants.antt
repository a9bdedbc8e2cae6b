use Rattle.std.proofs.Common.{◌≡◌, ◌++◌, take}
use Rattle.proto_wire.specs.Writing.{packed_payload}
use Rattle.scip_index.proofs.in_place.PackedNumbersWritten.encode_into.Given as goal

abbrev pub invariant-loop-number : goal.invariant-loop-number
invariant-loop-number l = l.out.items ≡ l.initial.out.items ++ packed_payload (take l.number-index l.self.numbers.now)
