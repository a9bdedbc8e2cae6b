use Rattle.scip_symbol.proofs.OneWriting.{written_once}
use Rattle.scip_symbol.proofs.laws.write_outcome_is_unique.Goals as goal

pub returns : goal.returns
returns c = written_once
