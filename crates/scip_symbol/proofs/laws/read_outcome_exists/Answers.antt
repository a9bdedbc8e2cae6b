use Rattle.scip_symbol.proofs.SomeReading.{some_outcome}
use Rattle.scip_symbol.proofs.laws.read_outcome_exists.Goals as goal

pub returns : goal.returns
returns c = some_outcome
