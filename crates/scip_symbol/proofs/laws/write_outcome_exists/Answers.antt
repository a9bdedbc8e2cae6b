use Rattle.scip_symbol.proofs.WriteLaws.{symbol_outcome}
use Rattle.scip_symbol.proofs.laws.write_outcome_exists.Goals as goal

pub returns : goal.returns
returns c = symbol_outcome
