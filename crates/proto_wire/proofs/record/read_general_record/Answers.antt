use Rattle.proto_wire.specs.Readings.{payload_record_view}
use Rattle.proto_wire.proofs.RecordReadings.{first_told}
use Rattle.proto_wire.proofs.record.read_general_record.Goals as goal

pub returns-in-None-clause-exact : goal.returns-in-None-clause-exact
returns-in-None-clause-exact c = first_told payload_record_view c.args.at c.args.bytes.now c.read_first_record.result c.read_first_record.ensures.value
