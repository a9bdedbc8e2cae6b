use Rattle.std.proofs.Common.{Ok}
use Rattle.scip_symbol.proofs.OneReading.{outcome_once}
use Rattle.scip_symbol.proofs.laws.what_is_written_is_read.Goals as goal

pub returns : goal.returns
returns c = record {
  some = λ s text w. w.0;
  only = λ s text o w is. outcome_once text o (Ok s) is w.0;
}
