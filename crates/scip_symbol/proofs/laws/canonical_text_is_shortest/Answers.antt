use Rattle.scip_symbol.proofs.PlainTexts.{plain_is_text, plain_is_least}
use Rattle.scip_symbol.proofs.laws.canonical_text_is_shortest.Goals as goal

pub returns : goal.returns
returns c = record { text = plain_is_text; shortest = plain_is_least }
