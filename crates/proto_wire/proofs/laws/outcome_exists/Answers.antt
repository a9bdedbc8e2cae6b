use Rattle.proto_wire.proofs.PieceReadings.{outcome_exists}
use Rattle.proto_wire.proofs.laws.outcome_exists.Goals as goal

pub returns : goal.returns
returns c = outcome_exists
