use Rattle.scip_symbol.proofs.OneReading.{outcome_once}
use Rattle.scip_symbol.proofs.laws.read_outcome_is_unique.Goals as goal

pub returns : goal.returns
returns c = outcome_once
