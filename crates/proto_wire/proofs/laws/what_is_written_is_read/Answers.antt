use Rattle.proto_wire.proofs.GivenLaws.{packed_is}
use Rattle.proto_wire.proofs.WritingLaws.{record_again, record-again, records_again, carry_again}
use Rattle.proto_wire.proofs.laws.what_is_written_is_read.Goals as goal

pub returns : goal.returns
returns c = record { one = record_again; followed = record-again; records = records_again; carried = carry_again; numbers = packed_is }
