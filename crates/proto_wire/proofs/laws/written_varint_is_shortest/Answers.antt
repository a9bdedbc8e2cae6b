use Rattle.proto_wire.proofs.VarintLaws.{varint-shortest}
use Rattle.proto_wire.proofs.WritingLaws.{varint_is}
use Rattle.proto_wire.proofs.laws.written_varint_is_shortest.Goals as goal

pub returns : goal.returns
returns c = record { varint = varint_is; shortest = varint-shortest }
