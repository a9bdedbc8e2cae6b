use Rattle.proto_wire.proofs.GivenLaws.{number-given, text-given, packed-given, payloads-given}
use Rattle.proto_wire.proofs.laws.written_fields_are_decoded.Goals as goal

pub returns : goal.returns
returns c = record { number = number-given; text = text-given; numbers = packed-given; payloads = payloads-given }
