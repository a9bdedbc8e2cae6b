use Rattle.scip_symbol.proofs.PlainTexts.{symbol_once}
use Rattle.scip_symbol.proofs.laws.symbol_is_unique.Goals as goal

pub returns : goal.returns
returns c = symbol_once
