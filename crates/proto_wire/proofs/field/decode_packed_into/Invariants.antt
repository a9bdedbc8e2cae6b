use Rattle.std.proofs.Common.{◌≡◌, ◌++◌, List, ℤ, length}
use Rattle.proto_wire.proofs.PackedLaws.{Counts}
use Rattle.proto_wire.proofs.field.decode_packed_into.Given as goal

abbrev pub invariant-loop-rest : goal.invariant-loop-rest
invariant-loop-rest l = (front : List ℤ) × (l.numbers.items ≡ l.initial.numbers.items ++ front) × Counts l.at l.payload front l.rest

abbrev pub decreases-loop-rest : goal.decreases-loop-rest
decreases-loop-rest l = length l.rest
