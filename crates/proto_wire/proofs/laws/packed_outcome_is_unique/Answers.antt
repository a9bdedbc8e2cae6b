use Rattle.proto_wire.proofs.PackedReadings.{packed_outcome_is_unique}
use Rattle.proto_wire.proofs.laws.packed_outcome_is_unique.Goals as goal

pub returns : goal.returns
returns c = packed_outcome_is_unique
