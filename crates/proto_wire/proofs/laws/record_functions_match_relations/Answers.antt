use Rattle.proto_wire.proofs.PackedReadings.{packed_iff}
use Rattle.proto_wire.proofs.PieceReadings.{records_iff, stopped_iff}
use Rattle.proto_wire.proofs.RecordReadings.{first_iff}
use Rattle.proto_wire.proofs.laws.record_functions_match_relations.Goals as goal

pub returns : goal.returns
returns c = record { first = first_iff; records = records_iff; stopped = stopped_iff; numbers = packed_iff }
