use Rattle.scip_symbol.proofs.TextCuts.{word_stripped}
use Rattle.scip_symbol.proofs.cuts.strip_word.Goals as goal

pub returns : goal.returns
returns c = word_stripped c.args.word.now c.args.text.now c.strip_prefix.result c.strip_prefix.ensures.cases
