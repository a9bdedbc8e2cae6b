use Rattle.std.proofs.Common.{◌≡◌, ◌++◌}
use Rattle.proto_wire.specs.Varints.{varint}
use Rattle.proto_wire.proofs.varint.append_varint.Given as goal

abbrev pub invariant-loop-rest : goal.invariant-loop-rest
invariant-loop-rest l = l.out.items ++ varint l.rest ≡ l.initial.out.items ++ varint l.number

abbrev pub decreases-loop-rest : goal.decreases-loop-rest
decreases-loop-rest l = l.rest
