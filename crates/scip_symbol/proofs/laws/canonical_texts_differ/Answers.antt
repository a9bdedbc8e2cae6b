use Rattle.scip_symbol.proofs.PlainTexts.{texts_apart}
use Rattle.scip_symbol.proofs.laws.canonical_texts_differ.Goals as goal

pub returns : goal.returns
returns c = texts_apart
