use Rattle.proto_wire.proofs.PieceReadings.{outcome_is_unique}
use Rattle.proto_wire.proofs.laws.outcome_is_unique.Goals as goal

pub returns : goal.returns
returns c = outcome_is_unique
