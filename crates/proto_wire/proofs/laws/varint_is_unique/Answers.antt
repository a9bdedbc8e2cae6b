use Rattle.proto_wire.proofs.VarintReadings.{varint_is_unique}
use Rattle.proto_wire.proofs.laws.varint_is_unique.Goals as goal

pub returns : goal.returns
returns c = varint_is_unique
