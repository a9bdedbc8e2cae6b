use Rattle.proto_wire.specs.Packed.{packed}
use Rattle.proto_wire.proofs.PackedReadings.{packed_read}
use Rattle.proto_wire.proofs.laws.packed_outcome_exists.Goals as goal

pub returns : goal.returns
returns c = λ at payload. (packed at payload, packed_read at payload)
